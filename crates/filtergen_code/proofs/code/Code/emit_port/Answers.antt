use Rattle.std.proofs.Common.{refl}
use Rattle.bpfvm.specs.Codes.{operation_of}
use Rattle.bpfvm.specs.Validity.{fault_of}
use Rattle.filtergen_code.proofs.code.Code.emit_port.Goals as goal

pub emit-requires-clause-sound : goal.emit-requires-clause-sound
unfolding fault_of operation_of
emit-requires-clause-sound c = rw c.plain_insn.ensures refl

pub returns : goal.returns
returns c = record {
  rest = c.emit_range_branch.new.self;
  chosen = c.emit_range_branch.ensures;
  front = rw (c.emit.ensures, c.plain_insn.ensures) refl;
  here = c.len.ensures.value;
}
