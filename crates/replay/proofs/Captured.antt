-- One packet of a capture more.
use Rattle.std.proofs.Common.{◌≡◌, ◌≢◌, ◌⊎◌, inl, inr, ℕ, zero, suc, ◌+◌, ◌<◌, List, [], ◌∷◌, ◌++◌, length, get_or, All, Option, Some, refl, ap, sym, ◌∙◌, subst, arith}
use Rattle.std.specs.Io.KnownBytes.{Consumes}
use Rattle.std.proofs.KnownBytes.{Consumes-trans}
use Rattle.std.proofs.lemmas.Bool.{cases_eq}
use Rattle.std.proofs.lemmas.List.{append_assoc}
use Rattle.std.proofs.lemmas.List.Elements.{All-append}
use Rattle.listener.specs.Messages.{arrival, Arrival}
use Rattle.savefile.specs.Reader.{WasRefused}
use Rattle.savefile.specs.Savefile.{IsWritable, RefusesHeader}
use Rattle.savefile.specs.declared.fault.Fault.{Fault}
use Rattle.savefile.specs.declared.fault.Fault.TheVariants as fault
use Rattle.savefile.specs.declared.packet.Packet.{Packet}
use Rattle.replay_types.specs.declared.report.InterfaceEnd.{InterfaceEnd}
use Rattle.replay_types.specs.declared.report.InterfaceEnd.TheVariants.{Capture}
use Rattle.replay.specs.Captures.{arrivals_from, ComesBack, IsStopped}

arrivals-more : (capture place : ℕ) (ps : List Packet) (p : Packet) → arrivals_from capture place (ps ++ p ∷ []) ≡ arrivals_from capture place ps ++ arrival capture (place + length ps) p ∷ []
arrivals-more capture place [] p = ap (λ k. arrival capture k p ∷ []) (omega arith)
arrivals-more capture place (q ∷ ps) p =
    ap (λ xs. arrival capture place q ∷ xs) (arrivals-more capture (place + 1) ps p
    ∙ ap (λ k. arrivals_from capture (place + 1) ps ++ arrival capture k p ∷ []) (omega arith))

-- a packet that arrives after those of its capture
pub arrives-behind : (playlist : List Arrival) (capture place : ℕ) (ps : List Packet) (p : Packet) → length ps ≡ place
    → (playlist ++ arrivals_from capture 0 ps) ++ arrival capture place p ∷ [] ≡ playlist ++ arrivals_from capture 0 (ps ++ p ∷ [])
arrives-behind playlist capture place ps p here =
    append_assoc playlist (arrivals_from capture 0 ps) (arrival capture place p ∷ [])
    ∙ ap (λ xs. playlist ++ xs) (ap (λ k. arrivals_from capture 0 ps ++ arrival capture k p ∷ []) (omega (arith, here)) ∙ sym (arrivals-more capture 0 ps p))

one-writable : (p : Packet) → IsWritable p → (k : ℕ) (d : Packet) → k < length (p ∷ []) → IsWritable (get_or (p ∷ []) k d)
one-writable p is zero d below = is
one-writable p is (suc k) d below = absurd (omega (arith, below))

-- one writable packet more
pub writable-more : (ps : List Packet) (p : Packet) → All IsWritable ps → IsWritable p → All IsWritable (ps ++ p ∷ [])
writable-more ps p all is = All-append IsWritable ps (p ∷ []) all (one-writable p is)

pub none-writable : All IsWritable []
none-writable = λ k d below. absurd (omega (arith, below))

-- why a capture could not be opened, of which no packet arrived
pub not-opened : (start : Option (List ℕ)) (source_failed : Type 0) (why : Fault) → WasRefused start why ⊎ (why ≡ fault.Device) ⊎ (why ≡ fault.NoMemory)
    → (why ≡ fault.Device → source_failed) → (why ≢ fault.Failed) × (why ≢ fault.CountFull) × IsStopped start source_failed [] why
not-opened start source_failed why (inl refused) broken = (
  (λ e. subst (λ (f : Fault). RefusesHeader refused.text f) e refused.refused),
  (λ e. subst (λ (f : Fault). RefusesHeader refused.text f) e refused.refused),
  inl (refused, refl),
)
not-opened start source_failed why (inr (inl device)) broken = (
  (λ e. let bad = sym device ∙ e in cc),
  (λ e. let bad = sym device ∙ e in cc),
  inr (inr (inl (device, broken device, inl refl))),
)
not-opened start source_failed why (inr (inr none)) broken = (
  (λ e. let bad = sym none ∙ e in cc),
  (λ e. let bad = sym none ∙ e in cc),
  inr (inr (inr (none, refl))),
)

-- more bytes were taken
pub takes-more : (a b c : Option (List ℕ)) → (bytes : List ℕ) × Consumes a b bytes → (bytes : List ℕ) × Consumes b c bytes → (bytes : List ℕ) × Consumes a c bytes
takes-more a b c p q = (p.0 ++ q.0, Consumes-trans a b c p.0 q.0 p.1 q.1)

-- a source whose counted failures differ failed
pub device-or-same : (capture : ℕ) (why : Fault) (new old : ℕ) → (new ≢ old → why ≡ fault.Device)
    → (Some (Capture capture why) ≡ Some (Capture capture fault.Device)) ⊎ (new ≡ old)
device-or-same capture why new old differs =
    elim (cases_eq new old) [ inl same ↦ inr same | inr not ↦ inl (ap (λ (f : Fault). Some (Capture capture f)) (differs not)) ]

-- a source that was read further comes back
pub comes-back : {R : Type 0} (left : R → Option (List ℕ)) (failures : R → ℕ) (s m t : R) (capture : ℕ) (end : Option InterfaceEnd)
    → (bytes : List ℕ) × Consumes (left s) (left m) bytes → (bytes : List ℕ) × Consumes (left m) (left t) bytes → failures m ≡ failures s
    → (end ≡ Some (Capture capture fault.Device)) ⊎ (failures t ≡ failures m) → ComesBack left failures s t capture end
comes-back left failures s m t capture end first more same last = (
  takes-more (left s) (left m) (left t) first more,
  elim last [ inl device ↦ inl device | inr kept ↦ inr (kept ∙ same) ],
)
