use Rattle.std.proofs.Common.{refl, sym, rules}
use Rattle.bpfvm.specs.Codes.{Accumulator, Index, Store, operation_of}
use Rattle.bpfvm.specs.Next.{with_memory}
use Rattle.bpfvm.proofs.Traces.{operation-at, stores-nothing}
use Rattle.bpfvm.proofs.tracing.stored_by.Goals as goal

pub returns-in-2 : goal.returns-in-2
unfolding operation_of
returns-in-2 c = λ operation memory known.
    rw (← operation-at c.args.insn.now.code 2 operation (Store Accumulator) c.in-2.is refl known) refl

pub returns-in-3 : goal.returns-in-3
unfolding operation_of
returns-in-3 c = λ operation memory known.
    rw (← operation-at c.args.insn.now.code 3 operation (Store Index) c.in-3.is refl known) refl

pub returns-in_default : goal.returns-in_default
returns-in_default c = λ operation memory known.
    sym (stores-nothing c.args.insn.now (with_memory c.args.registers memory) operation (search rules) (search rules) known)
