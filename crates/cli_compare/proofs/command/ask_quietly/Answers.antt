use Rattle.std.proofs.Common.{ℕ, List, Bor, inr, refl, subst}
use Rattle.fault_report.specs.Reports.{TellsOne}
use Rattle.cli_answers.specs.Telling.{IsStopReport, TellsStop}
use Rattle.cli_compare.proofs.Telling.{one-with}
use Rattle.cli_compare.proofs.command.ask_quietly.Goals as goal

pub returns-in-Ok-clause-answers : goal.returns-in-Ok-clause-answers
returns-in-Ok-clause-answers g c tells =
    let S = g.E.FaultSink in
    let end = c.in-Ok.end in
    let sought = c.report_sought in
    let told = subst (λ (paths : List (Bor (List ℕ))). TellsStop (λ says. TellsOne S.takes_hints S.failed g.E.Write.contents S.fault_form says c.args.err.now sought.new.err) paths end.found) c.as_slice-paths.ensures.value sought.ensures.told in
    inr (
      end,
      c.in-Ok.ensures.seeks tells,
      refl,
      sought.ensures.status,
      λ stop is. one-with S.takes_hints S.failed g.E.Write.contents S.fault_form (IsStopReport c.args.words.now.inputs.items stop) c.args.err.now sought.new.err (told stop is),
    )
