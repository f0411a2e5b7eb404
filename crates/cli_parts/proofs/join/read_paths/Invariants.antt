use Rattle.std.proofs.Common.{◌≡◌, ◌∷◌, map, take}
use Rattle.cli_parts.proofs.Paths.{path_of, text_of}
use Rattle.cli_parts.proofs.join.read_paths.Given as goal

abbrev pub invariant-loop-part : goal.invariant-loop-part
invariant-loop-part l = map text_of l.paths.items ≡ l.fn.lines ∷ map path_of (take l.part-index l.parts)
