use Rattle.std.proofs.Common.{rules}
use Rattle.bpfvm.specs.Next.{with_memory}
use Rattle.bpfvm.specs.Codes.{operation_of}
use Rattle.bpfvm.proofs.Soundness.{code-known, effect-code}
use Rattle.bpfvm.proofs.machine.jump_or_return.Goals as goal

pub unreachable-requires : goal.unreachable-requires
unreachable-requires c = code-known c.args.insn.now c.requires.sound (search rules)

pub returns-in-5 : goal.returns-in-5
unfolding operation_of
returns-in-5 c = λ packet wire memory. rw (effect-code packet wire c.args.insn.now (with_memory c.args.registers memory) 5 c.in-5.is) (search rules)

pub returns-in-21 : goal.returns-in-21
unfolding operation_of
returns-in-21 c = λ packet wire memory. rw (effect-code packet wire c.args.insn.now (with_memory c.args.registers memory) 21 c.in-21.is) (search rules)

pub returns-in-29 : goal.returns-in-29
unfolding operation_of
returns-in-29 c = λ packet wire memory. rw (effect-code packet wire c.args.insn.now (with_memory c.args.registers memory) 29 c.in-29.is) (search rules)

pub returns-in-37 : goal.returns-in-37
unfolding operation_of
returns-in-37 c = λ packet wire memory. rw (effect-code packet wire c.args.insn.now (with_memory c.args.registers memory) 37 c.in-37.is) (search rules)

pub returns-in-45 : goal.returns-in-45
unfolding operation_of
returns-in-45 c = λ packet wire memory. rw (effect-code packet wire c.args.insn.now (with_memory c.args.registers memory) 45 c.in-45.is) (search rules)

pub returns-in-53 : goal.returns-in-53
unfolding operation_of
returns-in-53 c = λ packet wire memory. rw (effect-code packet wire c.args.insn.now (with_memory c.args.registers memory) 53 c.in-53.is) (search rules)

pub returns-in-61 : goal.returns-in-61
unfolding operation_of
returns-in-61 c = λ packet wire memory. rw (effect-code packet wire c.args.insn.now (with_memory c.args.registers memory) 61 c.in-61.is) (search rules)

pub returns-in-69 : goal.returns-in-69
unfolding operation_of
returns-in-69 c = λ packet wire memory. rw (effect-code packet wire c.args.insn.now (with_memory c.args.registers memory) 69 c.in-69.is) (search rules)

pub returns-in-77 : goal.returns-in-77
unfolding operation_of
returns-in-77 c = λ packet wire memory. rw (effect-code packet wire c.args.insn.now (with_memory c.args.registers memory) 77 c.in-77.is) (search rules)

pub returns-in-6 : goal.returns-in-6
unfolding operation_of
returns-in-6 c = λ packet wire memory. rw (effect-code packet wire c.args.insn.now (with_memory c.args.registers memory) 6 c.in-6.is) (search rules)

pub returns-in-22 : goal.returns-in-22
unfolding operation_of
returns-in-22 c = λ packet wire memory. rw (effect-code packet wire c.args.insn.now (with_memory c.args.registers memory) 22 c.in-22.is) (search rules)
