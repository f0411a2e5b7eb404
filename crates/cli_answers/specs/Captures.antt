-- Several captures that are read in order, up to the first fault.
use Rattle.std.specs.Prelude.{◌≡◌, ℕ, ◌+◌, ◌-◌, ◌^◌, min, Bool, true, false, not, List, Option, Result, Ok, Err}
use Rattle.savefile.specs.declared.fault.Fault.{Fault}
use Rattle.savefile.specs.declared.packet.Packet.{Packet}
use Rattle.cli_walk.specs.declared.walk.Stop.{Stop}
use Rattle.cli_walk.specs.declared.walk.Visited.{Visited}
use Rattle.cli_walk.specs.Walking.{Walked, visited}
use Rattle.cli_answers.specs.declared.captures.SoughtCaptures.{SoughtCaptures}
use Rattle.cli_answers.specs.declared.printing.Unprinted.{Unprinted}
use Rattle.cli_answers.specs.declared.seek.Sought.{Sought}
use Rattle.cli_answers.specs.Seeking.{Seeks}

-- the next capture is read if this one was read to its end and all was printed
abbrev pub goes_on : Result (Unit {0}) Fault → Result (Unit {0}) Unprinted → Result Bool Fault
goes_on (Ok done) (Ok all) = Ok true
goes_on (Ok done) (Err unprinted) = Ok false
goes_on (Err fault) printed = Err fault

-- the capture that ended the reading, if one did
abbrev pub read_of : Result Bool Stop → Result (Unit {0}) Stop
read_of (Ok is_over) = Ok tt
read_of (Err stop) = Err stop

-- ---- A packet that is looked for

-- the next capture is read if this one has no such packet
abbrev pub goes_on_to_find : Result Bool Fault → Result Bool Fault
goes_on_to_find (Ok found) = Ok (not found)
goes_on_to_find (Err fault) = Err fault

-- a packet was found if a visit did not go on
abbrev pub is_found : Result Bool Stop → Result Bool Stop
is_found (Ok is_over) = Ok (not is_over)
is_found (Err stop) = Err stop

-- a capture was looked through, up to the first packet that passes
abbrev pub LooksIn : {R : Type 0} → (R → Option (List ℕ)) → (Packet → Bool) → R → Visited R → Type 0
LooksIn {R = R} left passes from v =
    (s : Sought R) × Seeks left from passes s × (v ≡ visited s.source (goes_on_to_find s.found))

-- These captures were looked through, one after the other, until one had a packet that passes or a fault ended it.
abbrev pub SeeksIn : {R : Type 0} → (R → Option (List ℕ)) → (R → ℕ) → (Packet → Bool) → List R → SoughtCaptures R → Type 0
SeeksIn left failures passes captures s =
    (end : Result Bool Stop) × (s.found ≡ is_found end)
    × Walked {S = Unit {0}} {O = Unit {0}} left failures (λ n t o from v t' o'. LooksIn left passes from v) captures s.sources.items tt tt tt tt end
