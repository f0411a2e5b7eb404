use Rattle.std.proofs.Common.{◌≡◌, take, map}
use Rattle.bpftap_c.specs.Insns.{insn_of}
use Rattle.bpftap_c.proofs.insns.insns_of.Given as goal

abbrev pub invariant-loop-insn : goal.invariant-loop-insn
invariant-loop-insn l = l.found.items ≡ map insn_of (take l.insn-index l.insns)
