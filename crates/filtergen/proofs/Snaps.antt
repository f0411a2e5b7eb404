-- What a refusal says of a tree.
use Rattle.std.proofs.Common.{◌≡◌, ℕ, zero, suc, ◌<◌, ◌⊎◌, inl, inr, refl, arith}
use Rattle.std.proofs.lemmas.Bool.{cases_lt}
use Rattle.filter_tree.specs.Trees.{Tree}
use Rattle.filtergen_facts.specs.Weights.{need, weight}
use Rattle.filtergen_code.specs.Compiling.{Fits, IsBadSnap, IsRightSnap}
use Rattle.filtergen_facts.specs.declared.refusal.Refusal.{Refusal}
use Rattle.filtergen_facts.specs.declared.refusal.Refusal.TheVariants.{TooLong, TooDeep, BadSnap, NoMemory}

-- a snapshot length is out of range or right
pub bad_or_right : (snap : ℕ) → IsBadSnap snap ⊎ IsRightSnap snap
bad_or_right zero = inl (inl refl)
bad_or_right (suc snap) = elim (cases_lt 262144 (suc snap)) [ inl above ↦ inl (inr above) | inr within ↦ inr (omega arith, omega (arith, within)) ]

-- no refusal stands of a tree that fits
pub fits_unrefused : (t : Tree) (snap : ℕ) (r : Refusal) → Fits t snap → (r ≡ BadSnap → IsBadSnap snap) → (r ≡ TooDeep → 16 < need t)
    → (r ≡ TooLong → 500 < weight t) → (r ≡ NoMemory → ⊥) → ⊥
fits_unrefused t snap BadSnap fits bad deep long memory = elim (bad refl) [ inl none ↦ omega (arith, fits.0.0, none) | inr above ↦ omega (arith, fits.0.1, above) ]
fits_unrefused t snap TooDeep fits bad deep long memory = omega (arith, fits.1, deep refl)
fits_unrefused t snap TooLong fits bad deep long memory = omega (arith, fits.2, long refl)
fits_unrefused t snap NoMemory fits bad deep long memory = memory refl
