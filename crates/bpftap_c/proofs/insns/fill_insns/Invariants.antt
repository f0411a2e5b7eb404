use Rattle.std.proofs.Common.{◌≡◌, take, map}
use Rattle.bpftap_c.specs.Insns.{insn_of}
use Rattle.bpftap_c.proofs.insns.fill_insns.Given as goal

abbrev pub invariant-loop-place : goal.invariant-loop-place
invariant-loop-place l = map insn_of (take l.place l.to) ≡ take l.place l.insns
