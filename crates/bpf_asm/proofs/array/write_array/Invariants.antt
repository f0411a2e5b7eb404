use Rattle.std.proofs.Common.{◌≡◌, take}
use Rattle.std.specs.List.{flat_map}
use Rattle.std.specs.String.{string_bytes}
use Rattle.bpf_asm.specs.Arrays.{element_text}
use Rattle.bpf_asm.proofs.array.write_array.Given as goal

abbrev pub invariant-loop-insn : goal.invariant-loop-insn
invariant-loop-insn l = string_bytes l.text ≡ flat_map element_text (take l.insn-index l.insns)
