-- What is in the caller's memory after a call, which found it `old` and leaves it `new`.
use Rattle.std.specs.Prelude.{◌≡◌, ◌<◌, ◌≤◌, ◌+◌, ◌⊎◌, ℕ, List, ◌∷◌, ◌++◌, length, drop, Result, Ok, Err}
use Rattle.bpftap_c.specs.declared.outcome.BpftapResult.{BpftapResult}
use Rattle.bpftap_c.specs.declared.outcome.Failure.{Failure}
use Rattle.bpftap_c.specs.declared.outcome.Failure.TheVariants.{NoRoom}
use Rattle.bpftap_c.specs.Outcome.{done, failed}

-- The items are in its front, and the rest is as it was. Or it has no room for them, and all is as it was.
abbrev pub Puts : {A : Type 0} → List A → List A → List A → BpftapResult → Type 0
Puts items old new told =
    ((told ≡ done (length items)) × (length items ≤ length old) × (new ≡ items ++ drop (length items) old))
    ⊎ ((told ≡ failed (NoRoom (length items))) × (length old < length items) × (new ≡ old))

-- The same of a text, which a zero byte ends.
abbrev pub PutsText : List ℕ → List ℕ → List ℕ → BpftapResult → Type 0
PutsText text old new told =
    ((told ≡ done (length text)) × (length text < length old) × (new ≡ text ++ 0 ∷ drop (length text + 1) old))
    ⊎ ((told ≡ failed (NoRoom (length text))) × (length old ≤ length text) × (new ≡ old))

-- what was made is put there; or the failure is returned, and all is as it was
abbrev pub Delivers : {A : Type 0} → Result (List A) Failure → List A → List A → BpftapResult → Type 0
Delivers (Ok items) old new told = Puts items old new told
Delivers (Err failure) old new told = (told ≡ failed failure) × (new ≡ old)

abbrev pub DeliversText : Result (List ℕ) Failure → List ℕ → List ℕ → BpftapResult → Type 0
DeliversText (Ok text) old new told = PutsText text old new told
DeliversText (Err failure) old new told = (told ≡ failed failure) × (new ≡ old)
