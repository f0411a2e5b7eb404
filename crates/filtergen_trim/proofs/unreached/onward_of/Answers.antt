use Rattle.std.proofs.Common.{refl, rules, sym}
use Rattle.bpfvm.specs.Codes.{operation_of}
use Rattle.filtergen_trim.proofs.Reached.{onward-else}
use Rattle.filtergen_trim.proofs.unreached.onward_of.Goals as goal

pub returns-in_default : goal.returns-in_default
returns-in_default c = sym (onward-else c.args.insn c.requires (search rules))

pub returns-in-6 : goal.returns-in-6
unfolding operation_of
returns-in-6 c = rw c.in-6.is refl

pub returns-in-22 : goal.returns-in-22
unfolding operation_of
returns-in-22 c = rw c.in-22.is refl

pub returns-in-5 : goal.returns-in-5
unfolding operation_of
returns-in-5 c = rw c.in-5.is refl

pub returns-in-21 : goal.returns-in-21
unfolding operation_of
returns-in-21 c = rw c.in-21.is refl

pub returns-in-29 : goal.returns-in-29
unfolding operation_of
returns-in-29 c = rw c.in-29.is refl

pub returns-in-37 : goal.returns-in-37
unfolding operation_of
returns-in-37 c = rw c.in-37.is refl

pub returns-in-45 : goal.returns-in-45
unfolding operation_of
returns-in-45 c = rw c.in-45.is refl

pub returns-in-53 : goal.returns-in-53
unfolding operation_of
returns-in-53 c = rw c.in-53.is refl

pub returns-in-61 : goal.returns-in-61
unfolding operation_of
returns-in-61 c = rw c.in-61.is refl

pub returns-in-69 : goal.returns-in-69
unfolding operation_of
returns-in-69 c = rw c.in-69.is refl

pub returns-in-77 : goal.returns-in-77
unfolding operation_of
returns-in-77 c = rw c.in-77.is refl
