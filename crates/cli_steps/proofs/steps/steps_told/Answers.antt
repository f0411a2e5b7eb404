use Rattle.std.proofs.Common.{false, inl, inr, refl}
use Rattle.std.proofs.KnownBytes.{Keeps-refl}
use Rattle.line_text.specs.declared.form.LineForm.TheVariants.{Text}
use Rattle.cli_steps.proofs.Beyond.{plays-all}
use Rattle.cli_steps.proofs.Ending.{plays-of}
use Rattle.cli_steps.proofs.steps.steps_told.Goals as goal

pub returns-in-Ok : goal.returns-in-Ok
returns-in-Ok g c =
    let asked = c.in-Ok.ensures.listeners in
    inl (record {
      specs = asked.all;
      steps = c.in-Ok.plan.steps.items;
      of_listeners = asked.asked;
      of_script = c.in-Ok.ensures.script;
      plays = plays-all Text false _ asked.all _ _ _ _ _ asked.first (plays-of Text false false _ _ _ _ _ _ _ c.play.ensures);
    })

pub returns-in-Err : goal.returns-in-Err
returns-in-Err g c = inr (record {
  fault = c.in-Err.fault;
  refused = c.in-Err.ensures.fault;
  nothing = Keeps-refl _;
  tells = c.report_line.ensures;
  one = refl;
})
