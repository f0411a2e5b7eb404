-- What is put after a line that was emptied.
use Rattle.std.proofs.Common.{◌≡◌, ℕ, List, [], ◌++◌, Result, Ok, Err, OnOk, ap, append_assoc, ◌∙◌}

pub in_place : {A E : Type 0} (r : Result A E) (empty new text whole : List ℕ) → empty ≡ [] → OnOk r (new ≡ empty ++ text) → text ≡ whole → OnOk r (new ≡ whole)
in_place (Ok x) empty new text whole none put is = put ∙ ap (λ (t : List ℕ). t ++ text) none ∙ is
in_place (Err e) empty new text whole none put is = tt

-- the same by two calls
pub in_place_twice : {A E : Type 0} (r : Result A E) (empty first new text more whole : List ℕ) → empty ≡ [] → first ≡ empty ++ text → OnOk r (new ≡ first ++ more) → text ++ more ≡ whole → OnOk r (new ≡ whole)
in_place_twice (Ok x) empty first new text more whole none begun put is = put ∙ ap (λ (t : List ℕ). t ++ more) (begun ∙ ap (λ (t : List ℕ). t ++ text) none) ∙ is
in_place_twice (Err e) empty first new text more whole none begun put is = tt

-- fifteen pieces, of which the second to the twelfth are put by one call
pub regrouped : (a b c d e f g h i j k l m n o : List ℕ) → a ++ ((b ++ (c ++ (d ++ (e ++ (f ++ (g ++ (h ++ (i ++ (j ++ (k ++ l)))))))))) ++ (m ++ (n ++ o))) ≡ a ++ b ++ c ++ d ++ e ++ f ++ g ++ h ++ i ++ j ++ k ++ l ++ m ++ n ++ o
regrouped a b c d e f g h i j k l m n o = simp append_assoc

-- sixteen pieces, of which the first eight are put by one call
pub sixteen : (a b c d e f g h i j k l m n o p : List ℕ) → (a ++ (b ++ (c ++ (d ++ (e ++ (f ++ (g ++ h))))))) ++ (i ++ (j ++ (k ++ (l ++ (m ++ (n ++ (o ++ p))))))) ≡ a ++ b ++ c ++ d ++ e ++ f ++ g ++ h ++ i ++ j ++ k ++ l ++ m ++ n ++ o ++ p
sixteen a b c d e f g h i j k l m n o p = simp append_assoc
