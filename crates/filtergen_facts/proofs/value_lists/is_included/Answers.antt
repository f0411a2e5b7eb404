use Rattle.filtergen_facts.proofs.Leaving.{included}
use Rattle.filtergen_facts.proofs.value_lists.is_included.Goals as goal

pub returns-then-has : goal.returns-then-has
returns-then-has c =
    included c.args.kind c.args.ranges.now c.loop-range.range-index _ c.args.member c.if-not-includes.ensures c.loop-range-test.true c.if-has.ensures.0 c.if-has.ensures.1
