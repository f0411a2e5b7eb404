-- Why a capture was not opened, and that its source did not fail.
use Rattle.std.proofs.Common.{◌≡◌, ◌≢◌, ◌<◌, ◌⊎◌, inl, inr, ℕ, List, length, Option, arith}
use Rattle.std.specs.Io.KnownBytes.{Consumes}
use Rattle.savefile.specs.declared.fault.Fault.{Fault}
use Rattle.savefile.specs.declared.fault.Fault.TheVariants.{Device, NoMemory}
use Rattle.savefile.specs.Reader.{WasRefused}
use Rattle.pcap_info.specs.Survey.{IsUnopened}

pub unopened : {R : Type 0} (left : R → Option (List ℕ)) (from back : R) (fault : Fault) → WasRefused (left from) fault ⊎ (fault ≡ Device) ⊎ (fault ≡ NoMemory) →
    (fault ≡ NoMemory → back ≡ from) → (bytes : List ℕ) × Consumes (left from) (left back) bytes × (fault ≡ Device → length bytes < 24) → IsUnopened left from back fault
unopened left from back fault (inl refused) kept given = inl refused
unopened left from back fault (inr (inl device)) kept (bytes, gave, short) = inr (inl (device, bytes, gave, short device))
unopened left from back fault (inr (inr none)) kept given = inr (inr (none, kept none))

pub same-unless-different : (a b : ℕ) → (a ≢ b → ⊥) → a ≡ b
same-unless-different a b h = grind (arith, h)
