use Rattle.std.proofs.Common.{◌≡◌, take}
use Rattle.std.specs.String.{string_bytes}
use Rattle.bpfvm.specs.Images.{lines_from}
use Rattle.bpfvm.proofs.image.write_image.Given as goal

abbrev pub invariant-loop-place : goal.invariant-loop-place
invariant-loop-place l = string_bytes l.text ≡ lines_from 0 (take l.place l.insns)
