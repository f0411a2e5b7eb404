use Rattle.std.proofs.Common.{◌+◌, ◌%◌, Some, below_more, arith}
use Rattle.filter_same.specs.Filters.{filter_test}
use Rattle.filter_same.specs.Findings.{ClaimsOf}
use Rattle.filter_same.proofs.Ends.{each-header}
use Rattle.filter_same.proofs.find.find_each.Goals as goal

pub loop-place-preserved : goal.loop-place-preserved
loop-place-preserved c =
    let t = filter_test c.args.first in
    let u = filter_test c.args.second in
    below_more (λ n. ClaimsOf (Some ((n + 5) % 16)) t u c.weaker-least.result) c.loop-place.place
    (λ n less p ok head. c.weaker-least.ensures.first t u p (c.loop-place.invariant n less p ok head))
    (λ p ok head. c.weaker-least.ensures.second t u p (c.in_ok-found.ensures p ok head))

pub returns : goal.returns
returns c = each-header (filter_test c.args.first) (filter_test c.args.second) c.loop-place.least (λ n less. c.loop-place.invariant n (omega arith))
