use Rattle.std.proofs.Common.{◌≡◌, map, take}
use Rattle.cli_steps.proofs.files.borrow_all.Given as goal

-- the texts before were borrowed
abbrev pub invariant-loop-text : goal.invariant-loop-text
invariant-loop-text l = map (λ s. s.now) l.slices.items ≡ map (λ t. t.items) (take l.text-index l.texts)
