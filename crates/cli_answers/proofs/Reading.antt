-- How the reading of a capture goes on, and ends.
use Rattle.std.proofs.Common.{◌≡◌, ◌≢◌, ◌↔◌, ℕ, ◌+◌, ◌^◌, ◌<◌, ◌≤◌, ◌⊎◌, inl, inr, Bool, true, false, List, [], ◌∷◌, ◌++◌, length, Option, Result, Ok, Err, refl, sym, ◌∙◌, arith}
use Rattle.std.proofs.lemmas.Bool.{cases_eq}
use Rattle.std.specs.Io.KnownBytes.{Consumes}
use Rattle.std.specs.List.{AllByRecursion}
use Rattle.savefile.specs.declared.fault.Fault.{Fault}
use Rattle.savefile.specs.declared.fault.Fault.TheVariants.{Device, NoMemory}
use Rattle.savefile.specs.Reader.{Leaves, Reading, WasRefused}
use Rattle.cli_answers.specs.Reading.{IsUnopened}

-- the header was not read
pub unopened : {R : Type 0} (left : R → Option (List ℕ)) (from back : R) (fault : Fault) → WasRefused (left from) fault ⊎ (fault ≡ Device) ⊎ (fault ≡ NoMemory) →
    (fault ≡ NoMemory → back ≡ from) → (bytes : List ℕ) × Consumes (left from) (left back) bytes × (fault ≡ Device → length bytes < 24) → IsUnopened left from back fault
unopened left from back fault (inl refused) kept given = inl refused
unopened left from back fault (inr (inl device)) kept (bytes, gave, short) = inr (inl (device, bytes, gave, short device))
unopened left from back fault (inr (inr wanting)) kept given = inr (inr (wanting, kept wanting))

-- one more of them
pub all-more : {X : Type 0} (P : X → Type 0) (xs : List X) (x : X) → AllByRecursion P xs → P x → AllByRecursion P (xs ++ x ∷ [])
all-more P [] x all one = (one, tt)
all-more P (y ∷ xs) x (first, all) one = (first, all-more P xs x all one)

-- where a source gave one more, it did not fail
pub still-works : (a b start : ℕ) (result : Result Bool Fault) → (a ≢ b → result ≡ Err Device) → result ≡ Ok true → b ≡ start → a ≡ start
still-works a b start result tells is before = elim (cases_eq a b) [
  | inl same ↦ same ∙ before
  | inr differs ↦ let clash : ◌≡◌ {A = Result Bool Fault} (Ok true) (Err Device) = sym is ∙ tells differs in absurd cc
]

-- and a reading that went well says so
pub works-on : {A : Type 0} (read : Result A Fault) (x : A) (a b : ℕ) → read ≡ Ok x → a ≡ b → (read ≡ Err Device) ↔ (a ≢ b)
works-on {A} read x a b is same = (λ broke. let clash : ◌≡◌ {A = Result A Fault} (Ok x) (Err Device) = sym is ∙ broke in absurd cc, λ differs. absurd (differs same))

-- one more was given, and no more than can be counted
pub gave-more : {R : Type 0} (old new : Reading R) (result : Result Bool Fault) → Leaves old new result → result ≡ Ok true → (new.given ≡ old.given + 1) × (new.given < 2 ^ 64)
gave-more old new (Ok true) (goes, one, fits) is = (one, fits)
gave-more old new (Ok false) leaves is = absurd (cc)
gave-more old new (Err fault) leaves is = absurd (cc)

-- and there is room for one more
pub room-for-one : (packets before given : ℕ) → packets ≤ before → (given ≡ before + 1) × (given < 2 ^ 64) → packets + 1 < 2 ^ 64
room-for-one packets before given few more = omega (arith, few, more.0, more.1)
