-- The OUTs of a split that were closed.
use Rattle.std.specs.Prelude.{◌≡◌, ◌≢◌, ◌⊎◌, ℕ, Bool, true, List, [], ◌∷◌, Option, IfSome, Err}
use Rattle.savefile.specs.declared.fault.Fault.TheVariants.{Device}
use Rattle.cli_store.specs.Files.{BeginsAt, StoresAt, Texts}
use Rattle.cli_split.specs.declared.part.PartEnd.{PartEnd}

-- The OUT of a part was closed: it has what its sink took; or a device failed, and it is as it was, or has a beginning of that.
pub record Closes {W X : Type 0} (taken : W → Option (List ℕ)) (name : W → List ℕ) (failures : W → ℕ) (failed : Bool) (old new : Texts) (part : PartEnd W) (closed : PartEnd X) : Type 0 where
  pub others : (p : List ℕ) → p ≢ name part.sink → new p ≡ old p
  pub tally : closed.tally ≡ part.tally
  pub broke : failures part.sink ≢ 0 → failed ≡ true
  pub outcome : ((closed.written ≡ part.written) × IfSome (taken part.sink) (StoresAt old new (name part.sink)))
      ⊎ ((closed.written ≡ Err Device) × (failed ≡ true) × IfSome (taken part.sink) (BeginsAt old new (name part.sink)))

-- the OUTs of all parts were closed, one after the other
abbrev pub ClosesAll : {W X : Type 0} → (W → Option (List ℕ)) → (W → List ℕ) → (W → ℕ) → Bool → Texts → Texts → List (PartEnd W) → List (PartEnd X) → Type 0
ClosesAll taken name failures failed old new [] [] = (p : List ℕ) → new p ≡ old p
ClosesAll taken name failures failed old new [] (c ∷ cs) = ⊥
ClosesAll taken name failures failed old new (e ∷ es) [] = ⊥
ClosesAll taken name failures failed old new (e ∷ es) (c ∷ cs) =
    (mid : Texts) × Closes taken name failures failed old mid e c × ClosesAll taken name failures failed mid new es cs
