use Rattle.std.proofs.Common.{refl, sym, rules}
use Rattle.bpfvm.specs.Codes.{Calculate, Divide, Modulo, InIndex, ReturnConstant, ReturnAccumulator, operation_of}
use Rattle.bpfvm.proofs.Traces.{operation-at}
use Rattle.bpfvm.proofs.Endings.{how-other}
use Rattle.bpfvm.proofs.ending.how_by.Goals as goal

pub returns-in-6 : goal.returns-in-6
unfolding operation_of
returns-in-6 c = λ operation known. rw (← operation-at c.args.insn.now.code 6 operation ReturnConstant c.in-6.is refl known) refl

pub returns-in-22 : goal.returns-in-22
unfolding operation_of
returns-in-22 c = λ operation known. rw (← operation-at c.args.insn.now.code 22 operation ReturnAccumulator c.in-22.is refl known) refl

pub returns-in-60 : goal.returns-in-60
unfolding operation_of
returns-in-60 c = λ operation known. rw (← operation-at c.args.insn.now.code 60 operation (Calculate Divide InIndex) c.in-60.is refl known) refl

pub returns-in-156 : goal.returns-in-156
unfolding operation_of
returns-in-156 c = λ operation known. rw (← operation-at c.args.insn.now.code 156 operation (Calculate Modulo InIndex) c.in-156.is refl known) refl

pub returns-in_default : goal.returns-in_default
returns-in_default c = λ operation known.
    sym (how-other c.args.insn.now.code c.args.answer operation (search rules) (search rules) (search rules) (search rules) known)
