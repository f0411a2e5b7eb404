use Rattle.std.proofs.Common.{◌+◌, ◌*◌, ◌<◌, length, sym, arith}
use Rattle.filtergen_facts.specs.declared.lists.ValueRange.{ValueRange}
use Rattle.filter_meaning.specs.Meaning.{and_test, is_type, by_direction}
use Rattle.filtergen_facts.specs.Lists.{any_of, direction_of, in_range}
use Rattle.filtergen_code.proofs.Narrowed.{given-more, given-same}
use Rattle.filtergen_facts.proofs.Joining.{any-guarded}
use Rattle.filtergen_code.proofs.code.Code.emit_ip_net_list.Goals as goal

pub returns : goal.returns
returns c =
    let ranges = c.args.group.now.ranges.items in
    let m = c.args.group.now.kind.mask in
    let some : 0 < length ranges = omega (arith, c.requires.many) in
    let inner = rw c.ip_exits.ensures at c.in_ok-next.ensures in
    let t = λ (x : ValueRange). by_direction (direction_of c.args.group.now.kind.sides) (in_range x m 26) (in_range x m 30) in
    given-more _ (omega arith)
    (given-same c.args.context.known _ (any_of (λ x. and_test (is_type 0x0800) (t x)) ranges) (λ p holds. sym (any-guarded (is_type 0x0800) t ranges p some))
    (c.emit_ip_guard_given.ensures.guards (14 * length ranges + 6) (any_of t ranges) c.args.self.now c.requires.targets inner))
