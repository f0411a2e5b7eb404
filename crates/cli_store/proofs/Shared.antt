-- Elements of a list, and why an OUT is lost.
use Rattle.std.proofs.Common.{◌≡◌, inl, inr, ◌∷◌, zero, suc, ℕ, List, arith, Bool, true, false, Option, Some, None, IfSome, Bor, refl, sym, ◌∙◌, subst}
use Rattle.std.specs.List.{Any}
use Rattle.cli_store.specs.Files.{HaveOwnPlaces, IsLost}
use Rattle.cli_store.specs.Memory.{itself}

pub any_later : {X : Type 0} (P : X → Type 0) (x : X) (xs : List X) → Any P xs → Any P (x ∷ xs)
any_later P x xs a = (suc a.0, a.1, omega (arith, a.2), a.3, a.4)

any_first : {X : Type 0} (P : X → Type 0) (x : X) (xs : List X) → P x → Any P (x ∷ xs)
any_first P x xs holds = (zero, x, omega arith, refl, holds)

any_mapped : {X : Type 0} (P Q : X → Type 0) → ((x : X) → P x → Q x) → (xs : List X) → Any P xs → Any Q xs
any_mapped P Q each xs a = (a.0, a.1, a.2, a.3, each a.1 a.4)

-- a path that is read leads to the first OUT
pub lost_read : (printed : Option (List ℕ)) (read : List (Bor (List ℕ))) (output : Bor (List ℕ)) (others : List (Bor (List ℕ))) → Any (λ path. path.now ≡ output.now) read →
    IsLost itself printed true read (output ∷ others)
lost_read printed read output others is = inl (any_first (λ (o : Bor (List ℕ)). Any (λ path. path.now ≡ o.now) read) output others is)

-- standard output goes there
pub lost_printed : (printed : Option (List ℕ)) (read : List (Bor (List ℕ))) (output : Bor (List ℕ)) (others : List (Bor (List ℕ))) → printed ≡ Some output.now →
    IsLost itself printed true read (output ∷ others)
lost_printed printed read output others is = inr (inr (refl, any_first (λ (o : Bor (List ℕ)). printed ≡ Some o.now) output others is))

-- another OUT leads there
pub lost_written : (printed : Option (List ℕ)) (read : List (Bor (List ℕ))) (output : Bor (List ℕ)) (others : List (Bor (List ℕ))) → Any (λ other. other.now ≡ output.now) others →
    IsLost itself printed true read (output ∷ others)
lost_written printed read output others is =
    inr (inl (λ (own : HaveOwnPlaces itself (output ∷ others)). own.0 is.0 is.1 is.2 (subst (λ (p : Bor (List ℕ)). p.now ≡ output.now) (sym is.3) is.4)))

pub lost_later : (printed : Option (List ℕ)) (read : List (Bor (List ℕ))) (output : Bor (List ℕ)) (others : List (Bor (List ℕ))) → IsLost itself printed true read others →
    IsLost itself printed true read (output ∷ others)
lost_later printed read output others (inl is) = inl (any_later (λ (o : Bor (List ℕ)). Any (λ path. path.now ≡ o.now) read) output others is)
lost_later printed read output others (inr (inl shared)) = inr (inl (λ (own : HaveOwnPlaces itself (output ∷ others)). shared own.1))
lost_later printed read output others (inr (inr is)) = inr (inr (refl, any_later (λ (o : Bor (List ℕ)). printed ≡ Some o.now) output others is.1))

-- what standard output goes to counts only where something is printed
pub lost_asked : (printed asked : Option (List ℕ)) (prints : Bool) (read outputs : List (Bor (List ℕ))) → (prints ≡ true → asked ≡ printed) → (prints ≡ false → asked ≡ None) →
    IsLost itself asked true read outputs → IsLost itself printed prints read outputs
lost_asked printed asked prints read outputs same none (inl is) = inl is
lost_asked printed asked prints read outputs same none (inr (inl shared)) = inr (inl shared)
lost_asked printed asked true read outputs same none (inr (inr is)) =
    inr (inr (refl, any_mapped (λ (o : Bor (List ℕ)). asked ≡ Some o.now) (λ (o : Bor (List ℕ)). printed ≡ Some o.now) (λ o at. sym (same refl) ∙ at) outputs is.1))
lost_asked printed asked false read outputs same none (inr (inr is)) = let a = none refl in let b = is.1.4 in absurd (cc)

pub printed_asked : (printed asked : Option (List ℕ)) (prints : Bool) (read : List (Bor (List ℕ))) → (prints ≡ true → asked ≡ printed) → (prints ≡ false → asked ≡ None) →
    Any (λ path. asked ≡ Some path.now) read → (prints ≡ true) × Any (λ path. printed ≡ Some path.now) read
printed_asked printed asked true read same none is =
    (refl, any_mapped (λ (o : Bor (List ℕ)). asked ≡ Some o.now) (λ (o : Bor (List ℕ)). printed ≡ Some o.now) (λ o at. sym (same refl) ∙ at) read is)
printed_asked printed asked false read same none is = let a = none refl in let b = is.4 in absurd (cc)

-- what holds of the rest of a list, where something is found there, holds of the list
pub found_later : {A : Type 0} {X : Type 0} (P : List X → Type 0) (all rest : List X) → (P rest → P all) → (found : Option A) → IfSome found (λ _. P rest) → IfSome found (λ _. P all)
found_later P all rest later None is = tt
found_later P all rest later (Some a) is = later is
