use Rattle.std.proofs.Common.{rules}
use Rattle.bpfvm.specs.Next.{with_memory}
use Rattle.bpfvm.specs.Codes.{operation_of}
use Rattle.bpfvm.proofs.Soundness.{divisor-positive, modulus-positive, quotient, effect-code}
use Rattle.bpfvm.proofs.machine.calculate.Goals as goal

pub nonzero_div-a : goal.nonzero_div-a
nonzero_div-a c = divisor-positive c.args.insn.now c.requires.sound c.in-52.is

pub nonzero_rem-a : goal.nonzero_rem-a
nonzero_rem-a c = modulus-positive c.args.insn.now c.requires.sound c.in-148.is

pub returns-in-4 : goal.returns-in-4
unfolding operation_of
returns-in-4 c = λ packet wire memory. rw (effect-code packet wire c.args.insn.now (with_memory c.args.registers.now memory) 4 c.in-4.is) (search rules)

pub returns-in-12 : goal.returns-in-12
unfolding operation_of
returns-in-12 c = λ packet wire memory. rw (effect-code packet wire c.args.insn.now (with_memory c.args.registers.now memory) 12 c.in-12.is) (search rules)

pub returns-in-20 : goal.returns-in-20
unfolding operation_of
returns-in-20 c = λ packet wire memory. rw (effect-code packet wire c.args.insn.now (with_memory c.args.registers.now memory) 20 c.in-20.is) (search rules)

pub returns-in-28 : goal.returns-in-28
unfolding operation_of
returns-in-28 c = λ packet wire memory. rw (effect-code packet wire c.args.insn.now (with_memory c.args.registers.now memory) 28 c.in-28.is) (search rules)

pub returns-in-36 : goal.returns-in-36
unfolding operation_of
returns-in-36 c = λ packet wire memory. rw (effect-code packet wire c.args.insn.now (with_memory c.args.registers.now memory) 36 c.in-36.is) (search rules)

pub returns-in-44 : goal.returns-in-44
unfolding operation_of
returns-in-44 c = λ packet wire memory. rw (effect-code packet wire c.args.insn.now (with_memory c.args.registers.now memory) 44 c.in-44.is) (search rules)

pub returns-in-52 : goal.returns-in-52
unfolding operation_of
returns-in-52 c =
    let positive = quotient c.args.insn.now.k (divisor-positive c.args.insn.now c.requires.sound c.in-52.is) in
    λ packet wire memory. rw (effect-code packet wire c.args.insn.now (with_memory c.args.registers.now memory) 52 c.in-52.is, positive) (search rules)

pub returns-in-60 : goal.returns-in-60
unfolding operation_of
returns-in-60 c = λ packet wire memory. rw (effect-code packet wire c.args.insn.now (with_memory c.args.registers.now memory) 60 c.in-60.is) (search rules)

pub returns-in-68 : goal.returns-in-68
unfolding operation_of
returns-in-68 c = λ packet wire memory. rw (effect-code packet wire c.args.insn.now (with_memory c.args.registers.now memory) 68 c.in-68.is) (search rules)

pub returns-in-76 : goal.returns-in-76
unfolding operation_of
returns-in-76 c = λ packet wire memory. rw (effect-code packet wire c.args.insn.now (with_memory c.args.registers.now memory) 76 c.in-76.is) (search rules)

pub returns-in-84 : goal.returns-in-84
unfolding operation_of
returns-in-84 c = λ packet wire memory. rw (effect-code packet wire c.args.insn.now (with_memory c.args.registers.now memory) 84 c.in-84.is) (search rules)

pub returns-in-92 : goal.returns-in-92
unfolding operation_of
returns-in-92 c = λ packet wire memory. rw (effect-code packet wire c.args.insn.now (with_memory c.args.registers.now memory) 92 c.in-92.is) (search rules)

pub returns-in-100 : goal.returns-in-100
unfolding operation_of
returns-in-100 c = λ packet wire memory. rw (effect-code packet wire c.args.insn.now (with_memory c.args.registers.now memory) 100 c.in-100.is) (search rules)

pub returns-in-108 : goal.returns-in-108
unfolding operation_of
returns-in-108 c = λ packet wire memory. rw (effect-code packet wire c.args.insn.now (with_memory c.args.registers.now memory) 108 c.in-108.is) (search rules)

pub returns-in-116 : goal.returns-in-116
unfolding operation_of
returns-in-116 c = λ packet wire memory. rw (effect-code packet wire c.args.insn.now (with_memory c.args.registers.now memory) 116 c.in-116.is) (search rules)

pub returns-in-124 : goal.returns-in-124
unfolding operation_of
returns-in-124 c = λ packet wire memory. rw (effect-code packet wire c.args.insn.now (with_memory c.args.registers.now memory) 124 c.in-124.is) (search rules)

pub returns-in-148 : goal.returns-in-148
unfolding operation_of
returns-in-148 c =
    let positive = quotient c.args.insn.now.k (modulus-positive c.args.insn.now c.requires.sound c.in-148.is) in
    λ packet wire memory. rw (effect-code packet wire c.args.insn.now (with_memory c.args.registers.now memory) 148 c.in-148.is, positive) (search rules)

pub returns-in-156 : goal.returns-in-156
unfolding operation_of
returns-in-156 c = λ packet wire memory. rw (effect-code packet wire c.args.insn.now (with_memory c.args.registers.now memory) 156 c.in-156.is) (search rules)

pub returns-in-164 : goal.returns-in-164
unfolding operation_of
returns-in-164 c = λ packet wire memory. rw (effect-code packet wire c.args.insn.now (with_memory c.args.registers.now memory) 164 c.in-164.is) (search rules)

pub returns-in-172 : goal.returns-in-172
unfolding operation_of
returns-in-172 c = λ packet wire memory. rw (effect-code packet wire c.args.insn.now (with_memory c.args.registers.now memory) 172 c.in-172.is) (search rules)

pub returns-in-132 : goal.returns-in-132
unfolding operation_of
returns-in-132 c = λ packet wire memory. rw (effect-code packet wire c.args.insn.now (with_memory c.args.registers.now memory) 132 c.in-132.is) (search rules)

pub returns-in-7 : goal.returns-in-7
unfolding operation_of
returns-in-7 c = λ packet wire memory. rw (effect-code packet wire c.args.insn.now (with_memory c.args.registers.now memory) 7 c.in-7.is) (search rules)

pub returns-in-135 : goal.returns-in-135
unfolding operation_of
returns-in-135 c = λ packet wire memory. rw (effect-code packet wire c.args.insn.now (with_memory c.args.registers.now memory) 135 c.in-135.is) (search rules)
