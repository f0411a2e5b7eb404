use Rattle.std.proofs.Common.{ap}
use Rattle.cli_explain.proofs.Printing.{each-of}
use Rattle.cli_explain.proofs.each.explain_each.Goals as goal

pub returns-clause-explains : goal.returns-clause-explains
returns-clause-explains g c =
    let lines = c.print_capture-source.result in
    let told = c.print_totals-printed.ensures in
    each-of g.R.Source.left c.args.from c.args.form c.args.filter.now _ _ _ lines c.print_totals-printed.result c.print_capture-source.ensures.prints
    (λ closed. let (same, stays) = told.none closed in (same, ap g.O.Write.contents stays))
    (λ failed. let (same, stays) = told.failed failed in (same, ap g.O.Write.contents stays))
    told.prints
