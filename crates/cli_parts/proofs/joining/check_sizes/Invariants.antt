use Rattle.std.proofs.Common.{◌≡◌, All, take, true}
use Rattle.cli_parts.specs.Joined.{HasSize}
use Rattle.cli_parts.proofs.joining.check_sizes.Given as goal

abbrev pub invariant-loop-part : goal.invariant-loop-part
invariant-loop-part g l = g.F.PartFiles.known ≡ true → All (HasSize (g.F.PartFiles.text l.files)) (take l.part-index l.parts)
