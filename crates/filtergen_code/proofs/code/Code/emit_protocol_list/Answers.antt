use Rattle.std.proofs.Common.{◌+◌, ◌*◌, ◌<◌, length, refl, sym, arith}
use Rattle.filtergen_facts.specs.declared.lists.ValueRange.{ValueRange}
use Rattle.filter_meaning.specs.Meaning.{Test, check, byte, and_test, is_type, within}
use Rattle.filtergen_facts.specs.Lists.{any_of}
use Rattle.filtergen_code.proofs.Following.{decides-followed}
use Rattle.filtergen_code.proofs.Narrowed.{given-more, given-same}
use Rattle.filtergen_facts.proofs.Joining.{any-guarded}
use Rattle.filtergen_code.proofs.code.Code.emit_protocol_list.Goals as goal

abbrev number : ValueRange → Test
number x p = check (within x.low x.high) (byte 23 p)

pub returns : goal.returns
returns c =
    let ranges = c.args.group.now.ranges.items in
    let some : 0 < length ranges = omega (arith, c.requires.many) in
    let done = rw (c.as_slice-ranges.ensures.value, c.ip_exits-exits.ensures) at c.in_ok-next.ensures.0 in
    let inner = decides-followed _ (any_of number ranges) (λ r p bytes. refl) done in
    given-more _ (omega arith)
    (given-same c.args.context.known _ (any_of (λ x. and_test (is_type 0x0800) (number x)) ranges) (λ p holds. sym (any-guarded (is_type 0x0800) number ranges p some))
    (c.emit_ip_guard_given.ensures.guards (7 * length ranges + 2) (any_of number ranges) c.args.self.now c.requires.targets inner))
