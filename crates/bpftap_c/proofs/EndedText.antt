-- A text in the front of a memory, and a zero byte after it.
use Rattle.std.proofs.Common.{◌≡◌, ◌+◌, ◌<◌, ℕ, suc, List, [], ◌∷◌, ◌++◌, length, drop, slice_set, refl, ap, arith}

pub ended : (text memory : List ℕ) → length text < length memory
    → slice_set (text ++ drop (length text) memory) (length text) 0 ≡ text ++ 0 ∷ drop (length text + 1) memory
ended [] [] short = absurd (omega (arith, short))
ended [] (byte ∷ memory) short = refl
ended (letter ∷ text) [] short = absurd (omega (arith, short))
ended (letter ∷ text) (byte ∷ memory) short =
    let further : suc (length text) + 1 ≡ suc (length text + 1) = omega arith in
    rw further (ap (λ rest. letter ∷ rest) (ended text memory (omega (arith, short))))
