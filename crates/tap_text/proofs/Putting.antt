-- What is put after a line that was emptied.
use Rattle.std.proofs.Common.{◌≡◌, ℕ, List, [], ◌++◌, Result, Ok, Err, OnOk, ap, append_assoc, ◌∙◌}

pub in_place : {A E : Type 0} (r : Result A E) (empty new text whole : List ℕ) → empty ≡ [] → OnOk r (new ≡ empty ++ text) → text ≡ whole → OnOk r (new ≡ whole)
in_place (Ok x) empty new text whole none put is = put ∙ ap (λ (t : List ℕ). t ++ text) none ∙ is
in_place (Err e) empty new text whole none put is = tt

-- the same by two calls
pub in_place_twice : {A E : Type 0} (r : Result A E) (empty first new text more whole : List ℕ) → empty ≡ [] → first ≡ empty ++ text → OnOk r (new ≡ first ++ more) → text ++ more ≡ whole → OnOk r (new ≡ whole)
in_place_twice (Ok x) empty first new text more whole none begun put is = put ∙ ap (λ (t : List ℕ). t ++ more) (begun ∙ ap (λ (t : List ℕ). t ++ text) none) ∙ is
in_place_twice (Err e) empty first new text more whole none begun put is = tt

-- the same after what a line has
pub behind : {A E : Type 0} (r : Result A E) (old new text whole : List ℕ) → OnOk r (new ≡ old ++ text) → text ≡ whole → OnOk r (new ≡ old ++ whole)
behind (Ok x) old new text whole put is = put ∙ ap (λ (t : List ℕ). old ++ t) is
behind (Err e) old new text whole put is = tt

-- four pieces that are put by one call, and so on
pub four : (a b c d : List ℕ) → a ++ (b ++ (c ++ d)) ≡ a ++ b ++ c ++ d
four a b c d = simp append_assoc

pub eight : (a b c d e f g h : List ℕ) → a ++ (b ++ (c ++ (d ++ (e ++ (f ++ (g ++ h)))))) ≡ a ++ b ++ c ++ d ++ e ++ f ++ g ++ h
eight a b c d e f g h = simp append_assoc

pub nine : (a b c d e f g h i : List ℕ) → a ++ (b ++ (c ++ (d ++ (e ++ (f ++ (g ++ (h ++ i))))))) ≡ a ++ b ++ c ++ d ++ e ++ f ++ g ++ h ++ i
nine a b c d e f g h i = simp append_assoc

pub ten : (a b c d e f g h i j : List ℕ) → a ++ (b ++ (c ++ (d ++ (e ++ (f ++ (g ++ (h ++ (i ++ j)))))))) ≡ a ++ b ++ c ++ d ++ e ++ f ++ g ++ h ++ i ++ j
ten a b c d e f g h i j = simp append_assoc

-- eighteen pieces, of which the first eight are put by one call
pub eighteen : (a b c d e f g h i j k l m n o p q r : List ℕ) → (a ++ (b ++ (c ++ (d ++ (e ++ (f ++ (g ++ h))))))) ++ (i ++ (j ++ (k ++ (l ++ (m ++ (n ++ (o ++ (p ++ (q ++ r))))))))) ≡ a ++ b ++ c ++ d ++ e ++ f ++ g ++ h ++ i ++ j ++ k ++ l ++ m ++ n ++ o ++ p ++ q ++ r
eighteen a b c d e f g h i j k l m n o p q r = simp append_assoc
