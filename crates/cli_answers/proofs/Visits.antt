-- A visit to one of several captures.
use Rattle.std.proofs.Common.{◌≡◌, ◌↔◌, Bool, Result, Ok, Err, refl}
use Rattle.savefile.specs.declared.fault.Fault.{Fault}
use Rattle.savefile.specs.declared.fault.Fault.TheVariants.{Device}
use Rattle.cli_answers.specs.declared.printing.Unprinted.{Unprinted}
use Rattle.cli_answers.specs.Captures.{goes_on}

was-device : (read : Result (Unit {0}) Fault) (printed : Result (Unit {0}) Unprinted) → goes_on read printed ≡ Err Device → read ≡ Err Device
was-device (Ok done) (Ok all) is = absurd (cc)
was-device (Ok done) (Err unprinted) is = absurd (cc)
was-device (Err fault) printed is = cc

is-device : (read : Result (Unit {0}) Fault) (printed : Result (Unit {0}) Unprinted) → read ≡ Err Device → goes_on read printed ≡ Err Device
is-device read printed is = rw is refl

-- a visit reports a failed device where the reading did
pub broke-so : (read : Result (Unit {0}) Fault) (printed : Result (Unit {0}) Unprinted) (goes : Result Bool Fault) (P : Type 0) → goes ≡ goes_on read printed → ((read ≡ Err Device) ↔ P) → ((goes ≡ Err Device) ↔ P)
broke-so read printed goes P is (to, from) = rw is ((λ device. to (was-device read printed device)), (λ p. is-device read printed (from p)))
