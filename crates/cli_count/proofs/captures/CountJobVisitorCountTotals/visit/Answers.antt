use Rattle.std.proofs.Common.{◌∙◌, ℕ, ap}
use Rattle.cli_answers.specs.Counts.{sum_of}
use Rattle.cli_walk.specs.Walking.{visited}
use Rattle.cli_answers.proofs.Visits.{broke-so}
use Rattle.cli_count.proofs.captures.CountJobVisitorCountTotals.visit.Goals as goal

pub returns-clause-visits : goal.returns-clause-visits
returns-clause-visits g c =
    let e = c.count_packets-end.result in (
      e,
      c.count_packets-end.ensures.counts,
      ap (visited e.source) c.goes_on-goes_on.ensures,
      c.show-printed.ensures,
      c.either-opened.ensures,
      c.plus.ensures,
      c.saturating_add.ensures ∙ ap (λ (k : ℕ). sum_of c.args.totals.now.instructions k) c.taken_or_none.ensures,
    )

pub returns-clause-source_broke : goal.returns-clause-source_broke
returns-clause-source_broke g c = broke-so c.count_packets-end.result.read c.show-printed.result c.goes_on-goes_on.result _ c.goes_on-goes_on.ensures c.count_packets-end.ensures.source_broke
