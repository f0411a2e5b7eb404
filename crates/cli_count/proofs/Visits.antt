-- A visit to one of several captures.
use Rattle.std.proofs.Common.{◌≡◌, ◌↔◌, Bool, Result, Ok, Err, refl, ap}
use Rattle.savefile.specs.declared.fault.Fault.{Fault}
use Rattle.savefile.specs.declared.fault.Fault.TheVariants.{Device}
use Rattle.cli_count.specs.Captures.{looked}

was-device : (found : Result Bool Fault) → looked found ≡ Err Device → found ≡ Err Device
was-device (Ok found) is = absurd (cc)
was-device (Err fault) is = cc

is-device : (found : Result Bool Fault) → found ≡ Err Device → looked found ≡ Err Device
is-device found is = rw is refl

-- looking reports a failed device where the reading did
pub looked-so : (found : Result Bool Fault) (P : Type 0) → ((found ≡ Err Device) ↔ P) → ((looked found ≡ Err Device) ↔ P)
looked-so found P (to, from) = ((λ device. to (was-device found device)), (λ p. is-device found (from p)))
