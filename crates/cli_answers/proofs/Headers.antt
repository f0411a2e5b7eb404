-- What is left of several captures whose packets are printed.
use Rattle.std.proofs.Common.{◌≡◌, ◌≢◌, ℕ, suc, ◌⊎◌, inl, inr, Bool, true, false, List, [], ◌∷◌, Option, Result, Ok, Err, refl, ap, sym, subst, ◌∙◌}
use Rattle.std.specs.Prelude.{◌||◌, IsErr, IsErrOf, IsOk}
use Rattle.savefile.specs.declared.fault.Fault.{Fault}
use Rattle.savefile.specs.declared.fault.Fault.TheVariants.{ShortHeader, NotSavefile, Version, LinkType, TornRecord, BadFraction, TooLong, Device, Failed, CountFull}
use Rattle.savefile.specs.declared.fault.Fault.TheVariants as fault
use Rattle.cli_text.specs.declared.status.Status.{Status}
use Rattle.cli_text.specs.declared.status.Status.TheVariants.{Clean}
use Rattle.cli_text.specs.Telling.{fault_status}
use Rattle.cli_walk.specs.declared.walk.Stop.{Stop}
use Rattle.cli_walk.specs.declared.walk.Visited.{Visited}
use Rattle.cli_walk.specs.Walking.{Walked, Walks, end_of, stop, visited}
use Rattle.cli_answers.specs.declared.printing.Unprinted.{Unprinted}
use Rattle.cli_answers.specs.declared.printing.Unprinted.TheVariants.{NoMemory, Output}
use Rattle.cli_answers.specs.Captures.{goes_on, read_of}
use Rattle.cli_answers.specs.Telling.{printed_status, stop_status}

-- printing went well if its status says so
pub all-printed : {A : Type 0} (printed : Result A Unprinted) → printed_status printed ≡ Clean → IsOk printed
all-printed (Ok done) is = refl
all-printed (Err NoMemory) is = absurd (cc)
all-printed (Err (Output error)) is = absurd (cc)

-- no fault has the status that all went well
is-fault : (fault : Fault) → fault_status fault ≡ Clean → ⊥
is-fault ShortHeader is = absurd (cc)
is-fault NotSavefile is = absurd (cc)
is-fault Version is = absurd (cc)
is-fault LinkType is = absurd (cc)
is-fault (TornRecord place) is = absurd (cc)
is-fault (BadFraction place) is = absurd (cc)
is-fault (TooLong place) is = absurd (cc)
is-fault fault.NoMemory is = absurd (cc)
is-fault Device is = absurd (cc)
is-fault Failed is = absurd (cc)
is-fault CountFull is = absurd (cc)

-- no capture ended the reading if the status says so
pub all-read : {A : Type 0} (read : Result A Stop) → stop_status read ≡ Clean → IsOk read
all-read (Ok done) is = refl
all-read (Err stop) is = absurd (is-fault stop.fault is)

-- a visit after which the walk goes on read its capture; one that ends the walk without a fault did not print all
pub went-on : (read : Result (Unit {0}) Fault) (printed : Result (Unit {0}) Unprinted) → goes_on read printed ≡ Ok true → IsOk read
went-on (Ok done) (Ok all) is = refl
went-on (Ok done) (Err unprinted) is = refl
went-on (Err fault) printed is = absurd (cc)

pub broke-off : (read : Result (Unit {0}) Fault) (printed : Result (Unit {0}) Unprinted) → goes_on read printed ≡ Ok false → IsErr printed
broke-off (Ok done) (Ok all) is = absurd (cc)
broke-off (Ok done) (Err unprinted) is = refl
broke-off (Err fault) printed is = absurd (cc)

-- what was printed did not break off
is-both : (printed : Result (Unit {0}) Unprinted) → IsOk printed → IsErr printed → ⊥
is-both (Ok all) well broken = absurd (cc)
is-both (Err unprinted) well broken = absurd (cc)

-- a fault that ends a visit ends the walk
no-end : (n : ℕ) (fault : Fault) → IsOk (read_of (end_of n (Err fault))) → ⊥
no-end n fault well = absurd (cc)

-- If a walk ended without a fault and all was printed, a header was read; or nothing was visited.
module _ {R S O : Type 0} (left : R → Option (List ℕ)) (failures : R → ℕ) (visits : ℕ → S → O → R → Visited R → S → O → Type 0) (opened : S → Bool) (printed : S → Result (Unit {0}) Unprinted)
    (on : (n : ℕ) (s : S) (o : O) (from to : R) (t : S) (p : O) → visits n s o from (visited to (Ok true)) t p → opened t ≡ true)
    (off : (n : ℕ) (s : S) (o : O) (from to : R) (t : S) (p : O) → visits n s o from (visited to (Ok false)) t p → IsErr (printed t)) where
  after : (t s' : S) (p o' : O) → opened t ≡ true → (opened s' ≡ true) ⊎ ((s' ≡ t) × (o' ≡ p)) → opened s' ≡ true
  after t s' p o' here (inl later) = later
  after t s' p o' here (inr (same, outs)) = ap opened same ∙ here

  walks-opened : (n : ℕ) (froms tos : List R) (s : S) (o : O) (s' : S) (o' : O) (end : Result Bool Stop) →
      Walks left failures visits n froms tos s o s' o' end → IsOk (read_of end) → IsOk (printed s') → (opened s' ≡ true) ⊎ ((s' ≡ s) × (o' ≡ o))
  walks-opened n [] [] s o s' o' end (states, outs, is) ok all = inr (states, outs)
  walks-opened n [] (to ∷ tos) s o s' o' end walks ok all = absurd walks
  walks-opened n (from ∷ froms) [] s o s' o' end walks ok all = absurd walks
  walks-opened n (from ∷ froms) (to ∷ tos) s o s' o' end (goes_on, t, p, visit, inl (more, walks)) ok all =
      let here = on n s o from to t p (subst (λ g. visits n s o from (visited to g) t p) more visit.0) in
      inl (after t s' p o' here (walks-opened (suc n) froms tos t p s' o' end walks ok all))
  walks-opened n (from ∷ froms) (to ∷ tos) s o s' o' end (Ok true, t, p, visit, inr (stops, states, outs, same, is)) ok all = absurd (stops refl)
  walks-opened n (from ∷ froms) (to ∷ tos) s o s' o' end (Ok false, t, p, visit, inr (stops, states, outs, same, is)) ok all =
      absurd (is-both (printed t) (subst (λ r. IsOk (printed r)) states all) (off n s o from to t p visit.0))
  walks-opened n (from ∷ froms) (to ∷ tos) s o s' o' end (Err fault, t, p, visit, inr (stops, states, outs, same, is)) ok all =
      absurd (no-end n fault (subst (λ e. IsOk (read_of e)) is ok))

  or-same : (s : S) (o : O) (s' : S) (o' : O) → (opened s' ≡ true) ⊎ ((s' ≡ s) × (o' ≡ o)) → (opened s' ≡ true) ⊎ (o' ≡ o)
  or-same s o s' o' (inl here) = inl here
  or-same s o s' o' (inr (same, outs)) = inr outs

  -- from the first capture on
  pub walked-opened : (froms tos : List R) (s : S) (o : O) (s' : S) (o' : O) (end : Result Bool Stop) →
      Walked left failures visits froms tos s o s' o' end → IsOk (read_of end) → IsOk (printed s') → (opened s' ≡ true) ⊎ (o' ≡ o)
  walked-opened froms tos s o s' o' end (inl walks) ok all = or-same s o s' o' (walks-opened 0 froms tos s o s' o' end walks ok all)
  walked-opened froms tos s o s' o' end (inr (same, states, outs, is)) ok all = inr outs

-- a header was read of the captures so far, or of the next one
pub or-opened : (a b : Bool) → b ≡ true → (a || b) ≡ true
or-opened true b is = refl
or-opened false b is = is

-- a reading that failed did not go well
pub no-fault : (read : Result (Unit {0}) Fault) (fault : Fault) → IsErrOf read fault → IsOk read → ⊥
no-fault (Ok done) fault broke well = absurd (cc)
no-fault (Err other) fault broke well = absurd (cc)

not-both : (printed : Result (Unit {0}) Unprinted) (unprinted : Unprinted) → printed ≡ Err unprinted → IsOk printed → ⊥
not-both (Ok all) unprinted broke well = absurd (cc)
not-both (Err other) unprinted broke well = absurd (cc)

-- After the lines of captures, which were printed so far, the counts were printed if a header was read. Then nothing waits; and where no header was
-- read, nothing was printed.
module _ {O : Type 0} (waits : O → Bool) (old mid new : O) (before printed : Result (Unit {0}) Unprinted) where
  was-printed : (b : Result (Unit {0}) Unprinted) → (IsErr b → printed ≡ b) → IsOk printed → IsOk b
  was-printed (Ok all) kept well = refl
  was-printed (Err unprinted) kept well = absurd (not-both printed unprinted (kept refl) well)

  by-header : (opened : Bool) → (opened ≡ false → new ≡ mid) → (opened ≡ true → IsOk printed → waits new ≡ false) → waits old ≡ false → IsOk printed → (opened ≡ true) ⊎ (mid ≡ old) → waits new ≡ false
  by-header true none handed empty well lines = handed refl well
  by-header false none handed empty well (inl opened) = handed opened well
  by-header false none handed empty well (inr same) = ap waits (none refl) ∙ ap waits same ∙ empty

  pub totals-handed : (opened : Bool) → (opened ≡ false → new ≡ mid) → (IsErr before → printed ≡ before) → (opened ≡ true → IsOk printed → waits new ≡ false) →
      (IsOk before → (opened ≡ true) ⊎ (mid ≡ old)) → waits old ≡ false → IsOk printed → waits new ≡ false
  totals-handed opened none broken handed lines empty well = by-header opened none handed empty well (lines (was-printed before broken well))
