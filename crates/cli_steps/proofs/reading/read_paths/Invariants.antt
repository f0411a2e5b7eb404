use Rattle.std.proofs.Common.{◌≡◌, ◌∷◌, take}
use Rattle.cli_steps.proofs.reading.read_paths.Given as goal

-- the paths before are among them
abbrev pub invariant-loop-path : goal.invariant-loop-path
invariant-loop-path l = l.paths.items ≡ l.words.listeners ∷ l.words.script ∷ take l.path-index l.inputs
