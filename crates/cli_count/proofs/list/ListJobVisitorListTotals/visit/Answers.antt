use Rattle.std.proofs.Common.{◌≡◌, ◌∙◌, ◌||◌, Bool, Result, ap, subst, slice_get}
use Rattle.savefile.specs.declared.fault.Fault.{Fault}
use Rattle.cli_walk.specs.Walking.{visited}
use Rattle.cli_answers.specs.Captures.{goes_on}
use Rattle.cli_answers.proofs.Visits.{broke-so}
use Rattle.cli_count.specs.Captures.{Shows, shown_path}
use Rattle.cli_count.proofs.Visits.{looked-so}
use Rattle.cli_count.proofs.list.ListJobVisitorListTotals.visit.Goals as goal

pub returns-clause-visits : goal.returns-clause-visits
returns-clause-visits g c =
    let s = c.find_first-source.result in (
      s,
      c.find_first-source.ensures.seeks,
      ap (visited s.source) (c.goes_on-goes_on.ensures ∙ ap (λ (r : Result (Unit {0}) Fault). goes_on r c.show-printed.result) c.looked.ensures),
      subst (λ (b : Bool). Shows (shown_path c.args.self.now.form (slice_get c.args.self.now.paths.now c.args.number) b) (g.O.Write.contents c.args.out.now) (g.O.Write.contents c.show-printed.new.out) c.show-printed.result)
          c.was_found-is_found.ensures c.show-printed.ensures,
      c.either-found.ensures ∙ ap (λ (b : Bool). c.args.totals.now.found || b) c.was_found-is_found.ensures,
    )
