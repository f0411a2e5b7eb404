-- Small facts on tests, on values that are there, and on the parts of an address.
use Rattle.std.proofs.Common.{◌≡◌, ℕ, ◌+◌, ◌<◌, Bool, true, false, ◌&&◌, List, [], ◌∷◌, Option, Some, None, length, refl, subst, arith}
use Rattle.std.specs.Prelude.{IfSome, option_map, option_and_then}
use Rattle.filterlang.specs.Numbers.{number_behind, numeral, octet, octets}

-- both parts of a test that holds
pub both_true : (a b : Bool) → (a && b) ≡ true → (a ≡ true) × (b ≡ true)
both_true true b e = (refl, e)
both_true false b e = absurd cc

-- what holds of a value that is there
pub at_some : {A : Type 0} (P : A → Type 0) (o : Option A) (x : A) → o ≡ Some x → IfSome o P → P x
at_some P o x e h = subst (λ r. IfSome r P) e h

-- bytes that are there are a numeral after 0
pub numeral_is : (base : ℕ) (bs : List ℕ) → 0 < length bs → numeral base bs ≡ number_behind base 0 bs
numeral_is base [] some = absurd (omega arith)
numeral_is base (b ∷ bs) some = refl

-- there are as many octets as parts
pub length-octets : (base most : ℕ) (parts : List (List ℕ)) (ns : List ℕ) → octets base most parts ≡ Some ns → length ns ≡ length parts
length-octets base most parts ns e = at_some (λ ms. length ms ≡ length parts) (octets base most parts) ns e (counted parts)
  where
    pushed : (n : ℕ) (rest : List (List ℕ)) (o : Option (List ℕ)) → IfSome o (λ ms. length ms ≡ length rest) → IfSome (option_map (λ ms. n ∷ ms) o) (λ ms. length ms ≡ 1 + length rest)
    pushed n rest None h = tt
    pushed n rest (Some ms) h = omega arith

    behind : (o : Option ℕ) (rest : List (List ℕ)) → IfSome (octets base most rest) (λ ms. length ms ≡ length rest) → IfSome (option_and_then (λ n. option_map (λ ms. n ∷ ms) (octets base most rest)) o) (λ ms. length ms ≡ 1 + length rest)
    behind None rest h = tt
    behind (Some n) rest h = pushed n rest (octets base most rest) h

    counted : (rest : List (List ℕ)) → IfSome (octets base most rest) (λ ms. length ms ≡ length rest)
    counted [] = refl
    counted (part ∷ rest) = subst (λ k. IfSome (octets base most (part ∷ rest)) (λ ms. length ms ≡ k)) (omega arith) (behind (octet base most part) rest (counted rest))
