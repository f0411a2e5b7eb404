use Rattle.bpf_asm.proofs.array.HexadecimalDisplay.fmt.Goals as goal

pub returns-clause-writes : goal.returns-clause-writes
returns-clause-writes g c = rw c.in_radix.ensures at c.write.ensures.writes
