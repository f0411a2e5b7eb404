use Rattle.std.proofs.Common.{subst}
use Rattle.cli_walk.specs.Walking.{Walked}
use Rattle.cli_answers.specs.Lines.{PrintsNext, PrintsNth, no_totals}
use Rattle.cli_answers.proofs.lines.print_captures.Goals as goal

pub returns : goal.returns
returns g c =
    let walk = c.visit_captures-sources in
    let P = g.P.PacketPrinter in (
      walk.result.end,
      c.read_of.ensures,
      subst (λ none. Walked g.R.Source.left g.R.Source.failures (PrintsNext g.C.PacketCounts.sum (PrintsNth g.R.Source.left g.O.Write.contents g.C.PacketCounts.none P.printed P.begun P.nth c.args.printer)) c.args.captures.items walk.result.sources.items (no_totals none) c.args.out.now walk.new.state walk.new.out walk.result.end)
          c.none.ensures.is walk.ensures,
    )
