use Rattle.std.proofs.Common.{◌<◌, length, refl, arith}
use Rattle.bpfvm.specs.Codes.{operation_of}
use Rattle.bpfvm.specs.Validity.{fault_of}
use Rattle.filter_meaning.specs.Meaning.{by_direction, has_port}
use Rattle.filtergen_facts.specs.Lists.{any_of, direction_of}
use Rattle.filtergen_facts.specs.declared.lists.ValueRange.{ValueRange}
use Rattle.filtergen_code.proofs.Deciding.{decides-more, decides-same}
use Rattle.filtergen_code.proofs.Seeking.{port_at, decides-header, header-shared}
use Rattle.filtergen_code.proofs.code.Code.emit_port_lookup.Goals as goal

pub emit-requires-clause-sound : goal.emit-requires-clause-sound
unfolding fault_of operation_of
emit-requires-clause-sound c = rw c.plain_insn-header.ensures refl

pub returns : goal.returns
returns c =
    let ranges = c.args.group.now.ranges.items in
    let d = direction_of c.args.group.now.kind.sides in
    let some : 0 < length ranges = omega (arith, c.requires.many) in
    let passed = rw c.plain_insn-header.ensures at c.exits_after-exits.ensures in
    let done = c.in_ok-emit_side_lookups.ensures in
    rw (c.len.ensures.value, c.emit.ensures, c.plain_insn-header.ensures)
    (decides-more _ (omega arith)
    (decides-same _ (any_of (λ (x : ValueRange). by_direction d (has_port x.low x.high 0) (has_port x.low x.high 2)) ranges) (λ p bytes. header-shared d ranges p some)
    (decides-header (λ l. any_of (port_at d l) ranges) done.1 passed.yes passed.no done.0)))
