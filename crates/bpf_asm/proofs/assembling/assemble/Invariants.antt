use Rattle.bpf_asm.proofs.Insns.{AssembledTo}
use Rattle.bpf_asm.proofs.assembling.assemble.Given as goal

abbrev pub invariant-loop-n : goal.invariant-loop-n
invariant-loop-n l = AssembledTo l.lines l.insns.items l.n
