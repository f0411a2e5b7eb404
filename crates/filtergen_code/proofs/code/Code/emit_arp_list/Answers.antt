use Rattle.std.proofs.Common.{◌<◌, length, sym, arith}
use Rattle.filtergen_facts.specs.declared.lists.ValueRange.{ValueRange}
use Rattle.filter_meaning.specs.Meaning.{and_test, is_type, by_direction}
use Rattle.filtergen_facts.specs.Lists.{any_of, direction_of, in_range}
use Rattle.filtergen_code.proofs.Deciding.{decides-both}
use Rattle.filtergen_code.proofs.Leading.{decides_any, decides-by-same, decides-by-more}
use Rattle.filtergen_facts.proofs.Joining.{any-guarded}
use Rattle.filtergen_code.proofs.code.Code.emit_arp_list.Goals as goal

pub returns : goal.returns
returns c =
    let ranges = c.args.group.now.ranges.items in
    let m = c.args.group.now.kind.mask in
    let targets = c.args.targets in
    let some : 0 < length ranges = omega (arith, c.requires.many) in
    let inner = rw c.any_exits-exits.ensures at c.in_ok-next.ensures in
    let typed = rw c.any_exits-exits.ensures at c.emit_ether_type.ensures in
    let t = λ (x : ValueRange). by_direction (direction_of c.args.group.now.kind.sides) (in_range x m 28) (in_range x m 38) in
    rw c.at.ensures
    (decides-by-same _ (any_of (λ x. and_test (is_type c.args.number) (t x)) ranges) (λ p bytes. sym (any-guarded (is_type c.args.number) t ranges p some))
    (decides-by-more _ (omega arith) (decides_any targets (decides-both (c.requires.targets.0.any, c.requires.targets.1.any) inner typed))))
