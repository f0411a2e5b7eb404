use Rattle.std.proofs.Common.{refl}
use Rattle.bpfvm.specs.Codes.{operation_of}
use Rattle.bpfvm.specs.Validity.{fault_of}
use Rattle.filtergen_code.proofs.Sides.{decides-after}
use Rattle.filtergen_code.proofs.code.Code.emit_header_and_ports.Goals as goal

pub emit-requires-clause-sound : goal.emit-requires-clause-sound
unfolding fault_of operation_of
emit-requires-clause-sound c = rw c.plain_insn-header.ensures refl

pub returns : goal.returns
returns c =
    let passed = rw c.plain_insn-header.ensures at c.exits_after-exits.ensures in
    rw (c.len.ensures.value, c.emit.ensures, c.plain_insn-header.ensures)
    (decides-after c.args.ports.direction c.args.ports.low c.args.ports.high c.emit_port_sides.ensures.front passed.yes passed.no c.emit_port_sides.ensures.test)
