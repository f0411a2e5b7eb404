-- Captures that are visited one after the other.
use Rattle.std.specs.Prelude.{◌≡◌, ◌≢◌, ◌↔◌, ℕ, suc, ◌⊎◌, Bool, true, List, [], ◌∷◌, Option, Result, Ok, Err}
use Rattle.std.specs.Io.KnownBytes.{Consumes}
use Rattle.savefile.specs.declared.fault.Fault.{Fault}
use Rattle.savefile.specs.declared.fault.Fault.TheVariants.{Device, NoMemory}
use Rattle.cli_walk.specs.declared.walk.Stop.{Stop}
use Rattle.cli_walk.specs.declared.walk.Visited.{Visited}

-- the capture that ended a walk
abbrev pub stop : ℕ → Fault → Stop
stop number fault = record { number = number; fault = fault }

-- how a walk ends after a visit to the capture of this number
abbrev pub end_of : ℕ → Result Bool Fault → Result Bool Stop
end_of number (Ok goes_on) = Ok goes_on
end_of number (Err fault) = Err (stop number fault)

-- What reading does to a source: its next bytes are taken, and `Device` is reported exactly if it failed.
abbrev pub IsRead : {R A : Type 0} → (R → Option (List ℕ)) → (R → ℕ) → R → R → Result A Fault → Type 0
IsRead left failures from to read =
    ((given : List ℕ) × Consumes (left from) (left to) given) × ((read ≡ Err Device) ↔ (failures to ≢ failures from))

abbrev pub visited : {R : Type 0} → R → Result Bool Fault → Visited R
visited source goes_on = record { source = source; goes_on = goes_on }

-- The capture of this number was visited, and its source is `to` now: it was read, and the state `s` and what is printed to, `o`, are `s'` and `o'`.
abbrev pub Visits : {R S O : Type 0} → (R → Option (List ℕ)) → (R → ℕ) → (ℕ → S → O → R → Visited R → S → O → Type 0) → ℕ → S → O → R → R → Result Bool Fault → S → O → Type 0
Visits left failures visits n s o from to goes_on s' o' = visits n s o from (visited to goes_on) s' o' × IsRead left failures from to goes_on

-- Of these captures, of which the first has the number n, each was visited, until a visit did not go on. The sources after that are as they
-- were.
abbrev pub Walks : {R S O : Type 0} → (R → Option (List ℕ)) → (R → ℕ) → (ℕ → S → O → R → Visited R → S → O → Type 0) → ℕ → List R → List R → S → O → S → O → Result Bool Stop → Type 0
Walks left failures visits n [] [] s o s' o' end = (s' ≡ s) × (o' ≡ o) × (end ≡ Ok true)
Walks left failures visits n [] (to ∷ tos) s o s' o' end = ⊥
Walks left failures visits n (from ∷ froms) [] s o s' o' end = ⊥
Walks {S = S} {O = O} left failures visits n (from ∷ froms) (to ∷ tos) s o s' o' end =
    (goes_on : Result Bool Fault) × (t : S) × (p : O) × Visits left failures visits n s o from to goes_on t p
    × (((goes_on ≡ Ok true) × Walks left failures visits (suc n) froms tos t p s' o' end)
    ⊎ ((goes_on ≢ Ok true) × (s' ≡ t) × (o' ≡ p) × (tos ≡ froms) × (end ≡ end_of n goes_on)))

-- The same from the first one on; or memory was refused, and nothing was visited.
abbrev pub Walked : {R S O : Type 0} → (R → Option (List ℕ)) → (R → ℕ) → (ℕ → S → O → R → Visited R → S → O → Type 0) → List R → List R → S → O → S → O → Result Bool Stop → Type 0
Walked left failures visits froms tos s o s' o' end =
    Walks left failures visits 0 froms tos s o s' o' end
    ⊎ ((tos ≡ froms) × (s' ≡ s) × (o' ≡ o) × (end ≡ Err (stop 0 NoMemory)))
