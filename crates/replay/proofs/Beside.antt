-- The feeders of tasks, beside what their threads are given.
use Rattle.std.proofs.Common.{◌≡◌, List, [], ◌∷◌, map, refl, ap, ◌∙◌}
use Rattle.replay.specs.TaskStates.{parts_line, parts_pair}
use Rattle.replay.specs.Lines.{Line, line_of, slot_pair}
use Rattle.replay.specs.declared.states.task.TaskParts.{TaskParts}
use Rattle.replay.specs.declared.states.feeder.FeederSlot.{FeederSlot}

-- they are of the same pairs
pub pairs-of-lines : {W : Type 0} (slots : List FeederSlot) (all_parts : List (TaskParts W)) → map line_of slots ≡ map parts_line all_parts
    → map slot_pair slots ≡ map parts_pair all_parts
pairs-of-lines [] [] e = refl
pairs-of-lines [] (s ∷ ss) e = absurd cc
pairs-of-lines (e ∷ es) [] h = absurd cc
pairs-of-lines (e ∷ es) (s ∷ ss) h =
    let first : line_of e ≡ parts_line s = cc in let rest : map line_of es ≡ map parts_line ss = cc in
    ap (λ p. p ∷ map slot_pair es) (ap (λ (l : Line). l.pair) first) ∙ ap (λ ps. parts_pair s ∷ ps) (pairs-of-lines es ss rest)
