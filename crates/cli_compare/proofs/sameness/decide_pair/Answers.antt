use Rattle.filter_same.specs.Filters.{filter_accepts, filter_test}
use Rattle.filter_same.proofs.Builders.{map-ok}
use Rattle.cli_compare.specs.Deciding.{asked_accepts, asked_test}
use Rattle.cli_compare.proofs.Witnesses.{holds-as}
use Rattle.cli_compare.proofs.sameness.decide_pair.Goals as goal

pub returns : goal.returns
returns g c =
    map-ok c.decide_filters-decided.result
    (λ s h. holds-as (filter_accepts c.filter_of.result) (filter_accepts c.filter_of-2.result) _ _ (filter_test c.filter_of.result) (filter_test c.filter_of-2.result) _ _ s
    c.filter_of.ensures.accepts c.filter_of.ensures.test c.filter_of-2.ensures.accepts c.filter_of-2.ensures.test h)
    c.decide_filters-decided.ensures
