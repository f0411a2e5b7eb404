use Rattle.std.proofs.Common.{◌≡◌, ◌-◌, ◌<◌, List, length, take, drop, sym, refl, arith}
use Rattle.std.proofs.lemmas.List.{take-append-drop, take_all, length-take, length-drop}
use Rattle.bpfvm.specs.Codes.{operation_of}
use Rattle.bpfvm.specs.Validity.{fault_of}
use Rattle.filtergen_facts.specs.declared.lists.ValueRange.{ValueRange}
use Rattle.filtergen_code.proofs.Deciding.{decides-more}
use Rattle.filtergen_code.proofs.Addresses.{decides-either-address}
use Rattle.filtergen_code.proofs.code.Code.emit_either_address.Goals as goal

pub emit-requires-clause-sound : goal.emit-requires-clause-sound
unfolding fault_of operation_of
emit-requires-clause-sound c = rw c.plain_insn.ensures refl

pub returns : goal.returns
returns c =
    let ranges = c.args.group.now.ranges.items in
    let n = length ranges - 1 in
    let first' : List ValueRange = take (length ranges - n) (drop n ranges) in
    let whole : first' ≡ drop n ranges = take_all (length ranges - n) (drop n ranges) (omega (arith, length-drop n ranges)) in
    let many : length (take n ranges) ≡ n = omega (arith, length-take n ranges) in
    let some : 0 < length (take n ranges) = omega (arith, length-take n ranges, c.requires.many) in
    let one : length (drop n ranges) ≡ 1 = omega (arith, length-drop n ranges, c.requires.many) in
    let others = rw c.as_slice-ranges.ensures.value at c.in_ok-emit_comparisons.ensures in
    let first = rw (c.as_slice-ranges.ensures.value, whole) at c.in_ok-emit_comparisons-2.ensures in
    rw (c.len.ensures.value)
    (decides-more _ (omega (arith, c.requires.many, many, one))
    (decides-either-address c.of_address-2.result c.of_address.result c.args.group.now.kind.mask c.args.offsets.0 c.args.offsets.1 ranges (take n ranges) (drop n ranges) c.of_address-2.ensures c.of_address.ensures
    (sym (take-append-drop n ranges)) one some
    c.requires.exits c.requires.last c.emit_load.ensures (rw c.len-last.ensures.value at others.0) (others.1 some)
    (rw (c.len-no.ensures.value, c.emit.ensures, c.plain_insn.ensures) at first.0) (first.1 (omega (arith, one))) c.emit_load-2.ensures))
