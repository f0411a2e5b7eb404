use Rattle.std.proofs.Common.{refl}
use Rattle.bpfvm.specs.Codes.{operation_of}
use Rattle.bpfvm.specs.Validity.{fault_of}
use Rattle.filtergen_code.specs.declared.insns.Field.TheVariants as fields
use Rattle.filtergen_code.proofs.Growing.{load-sound, mask-sound}
use Rattle.filtergen_code.proofs.Seeking.{loads-at, loads-masked, loads-after}
use Rattle.filtergen_code.proofs.code.Code.emit_load.Goals as goal

pub emit-requires-clause-sound : goal.emit-requires-clause-sound
emit-requires-clause-sound c = rw c.load_insn.ensures (load-sound c.in-At.field _)

pub emit-requires-in-Masked-clause-sound : goal.emit-requires-in-Masked-clause-sound
emit-requires-in-Masked-clause-sound c = rw c.plain_insn.ensures (mask-sound c.in-Masked.mask _)

pub emit-requires-in-Masked-2-clause-sound : goal.emit-requires-in-Masked-2-clause-sound
emit-requires-in-Masked-2-clause-sound c = rw c.load_insn-in-Masked.ensures (load-sound (fields.Word c.in-Masked.offset) _)

pub emit-requires-in-Indirect-clause-sound : goal.emit-requires-in-Indirect-clause-sound
unfolding fault_of operation_of
emit-requires-in-Indirect-clause-sound c = rw c.plain_insn-in-Indirect.ensures refl

pub returns-in-At : goal.returns-in-At
returns-in-At c = rw (c.in-At.is, c.emit.ensures, c.load_insn.ensures) (loads-at c.in-At.field c.args.self.now)

pub returns-in-Masked : goal.returns-in-Masked
returns-in-Masked c =
    rw (c.in-Masked.is, c.emit-in-Masked-2.ensures, c.load_insn-in-Masked.ensures, c.emit-in-Masked.ensures, c.plain_insn.ensures)
    (loads-masked c.in-Masked.offset c.in-Masked.mask c.args.self.now)

pub returns-in-Indirect : goal.returns-in-Indirect
returns-in-Indirect c = rw (c.in-Indirect.is, c.emit-in-Indirect.ensures, c.plain_insn-in-Indirect.ensures) (loads-after c.in-Indirect.offset c.args.self.now)
