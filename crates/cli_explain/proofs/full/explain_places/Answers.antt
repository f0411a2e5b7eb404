use Rattle.std.proofs.Common.{ℕ, List, Bor, true, inr, subst, option_copied}
use Rattle.fault_report.specs.Reports.{TellsAmong}
use Rattle.fault_report.specs.declared.report.Report.{Report}
use Rattle.cli_answers.specs.Asked.{IsAsked}
use Rattle.cli_answers.specs.Counts.{asked_form}
use Rattle.cli_answers.specs.declared.form.PacketForm.{PacketForm}
use Rattle.cli_answers.proofs.Closing.{fresh}
use Rattle.cli_text.specs.declared.status.Status.TheVariants.{Clean}
use Rattle.cli_explain.specs.Explaining.{FindsIn}
use Rattle.cli_explain.proofs.full.explain_places.Goals as goal

pub returns-clause-answers : goal.returns-clause-answers
returns-clause-answers g c tells =
    let F = g.F.FileStore in
    let left = g.F.Input.Source.left in
    let old = c.args.files.now in
    let words = c.args.asked.now.words.now in
    let asked = c.in-Ok.asked in
    let call = c.explain_in_full in
    let among = λ (says : Report → Type 0). TellsAmong g.E.FaultSink.takes_hints g.E.FaultSink.failed g.E.Write.contents g.E.FaultSink.fault_form says c.args.err.now call.new.err in
    let asks = subst (λ (paths : List (Bor (List ℕ))). IsAsked left g.F.Input.Source.failures (F.place old) (F.text old) (F.printed old) (option_copied words.listing) (option_copied words.expr) paths asked)
    c.as_slice-paths.ensures.value (c.in-Ok.ensures.asks tells) in
    let finds = subst (λ (paths : List (Bor (List ℕ))). FindsIn left g.O.Write.contents (F.failed call.new.files) among paths (asked_form words.json) asked.filter c.args.asked.now.places.first c.args.asked.now.places.last 0 true Clean asked.captures.items c.args.out.now call.new.out call.result)
    c.as_slice-paths.ensures.value (subst (λ (form : PacketForm). FindsIn left g.O.Write.contents (F.failed call.new.files) among c.as_slice-paths.result.now form asked.filter c.args.asked.now.places.first c.args.asked.now.places.last 0 true Clean asked.captures.items c.args.out.now call.new.out call.result)
    c.asked-form.ensures (call.ensures.finds tells (fresh left g.F.Input.Source.failures (F.place old) (F.text old) words.inputs.items asked.captures.items asks.captures))) in
    inr (record { asked = asked; asks = asks; finds = finds })
