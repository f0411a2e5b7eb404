use Rattle.std.proofs.Common.{ap, subst}
use Rattle.cli_walk.specs.Walking.{visited}
use Rattle.cli_answers.specs.Lines.{PrintsCapture}
use Rattle.cli_answers.proofs.Totals.{totals-as}
use Rattle.cli_answers.proofs.Visits.{broke-so}
use Rattle.cli_answers.proofs.lines.EachVisitorPrintedTotals.visit.Goals as goal

pub returns-clause-visits : goal.returns-clause-visits
returns-clause-visits g c =
    let call = c.print_capture-source in
    let p = call.result in
    let P = g.P.PacketPrinter in (
      p,
      subst (λ printer. PrintsCapture g.R.Source.left c.args.capture g.C.PacketCounts.none (P.printed printer) (P.begun printer) (g.O.Write.contents c.args.out.now) (g.O.Write.contents call.new.out) p) c.of_capture-printer.ensures call.ensures.prints,
      ap (visited p.source) c.goes_on-goes_on.ensures,
      totals-as c.after.result _ _ _ c.after.ensures.opened c.after.ensures.counts c.after.ensures.printed,
    )

pub returns-clause-source_broke : goal.returns-clause-source_broke
returns-clause-source_broke g c = broke-so c.print_capture-source.result.read c.print_capture-source.result.printed c.goes_on-goes_on.result _ c.goes_on-goes_on.ensures c.print_capture-source.ensures.source_broke
