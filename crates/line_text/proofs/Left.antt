-- What is left of a text, call after call.
use Rattle.std.proofs.Common.{◌≡◌, ℕ, ◌-◌, ◌≤◌, List, [], ◌++◌, length, take, drop, Option, refl, sym, ap, subst, ◌∙◌, append_assoc, arith, length-drop, take-append-drop}
use Rattle.std.proofs.lemmas.List.{take_all}
use Rattle.std.proofs.KnownBytes.{Appends-nil, Appends-trans, Appends-kept}
use Rattle.std.specs.Io.KnownBytes.{Appends, Keeps}
use Rattle.line_text.specs.Sending.{TakesPart}

-- so far these bytes were taken of a text, and the rest is left
pub record IsLeft (old new : Option (List ℕ)) (text rest : List ℕ) : Type 0 where
  pub front : List ℕ
  pub whole : text ≡ front ++ rest
  pub appends : Appends old new front

pub IsLeft-none : (o : Option (List ℕ)) (text : List ℕ) → IsLeft o o text text
IsLeft-none o text = record { front = []; whole = refl; appends = Appends-nil o }

-- the next n bytes
IsLeft-more : (a b c : Option (List ℕ)) (text rest : List ℕ) (n : ℕ) → IsLeft a b text rest → Appends b c (take n rest) → IsLeft a c text (drop n rest)
IsLeft-more a b c text rest n left next = record {
  front = left.front ++ take n rest;
  whole = left.whole ∙ ap (λ (t : List ℕ). left.front ++ t) (sym (take-append-drop n rest)) ∙ sym (append_assoc left.front (take n rest) (drop n rest));
  appends = Appends-trans a b c left.front (take n rest) left.appends next;
}

-- the same, with what is left as a slice's end is said
pub IsLeft-slice : (a b c : Option (List ℕ)) (text rest : List ℕ) (n : ℕ) → n ≤ length rest → IsLeft a b text rest → Appends b c (take n rest) → IsLeft a c text (take (length rest - n) (drop n rest))
IsLeft-slice a b c text rest n inside left next =
    subst (IsLeft a c text) (sym (take_all (length rest - n) (drop n rest) (omega (arith, length-drop n rest)))) (IsLeft-more a b c text rest n left next)

-- no byte more
pub IsLeft-kept : (a b c : Option (List ℕ)) (text rest : List ℕ) → IsLeft a b text rest → Keeps b c → IsLeft a c text rest
IsLeft-kept a b c text rest left same = record { front = left.front; whole = left.whole; appends = Appends-kept a b c left.front left.appends same }

-- what is taken is a beginning
pub TakesPart-left : (a b : Option (List ℕ)) (text rest : List ℕ) → IsLeft a b text rest → TakesPart a b text
TakesPart-left a b text rest left = record { part = left.front; begins = (rest, left.whole); appends = left.appends }
