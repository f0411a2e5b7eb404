-- What holds of the definitions of both ways of replaying.
use Rattle.std.specs.Prelude.{◌≡◌, ℕ, List, Option, Some, None, map}
use Rattle.listener.specs.Messages.{Arrival}
use Rattle.savefile.specs.declared.fault.Fault.{Fault}
use Rattle.savefile.specs.declared.fault.Fault.TheVariants.{TornRecord, BadFraction, TooLong}
use Rattle.replay.specs.Captures.{GivesPlaylist}
use Rattle.replay_types.specs.declared.report.InterfaceEnd.{InterfaceEnd}
use Rattle.replay_types.specs.declared.report.InterfaceEnd.TheVariants.{Clean, Capture, CountFull}
use Rattle.tap_steps.specs.OwnSteps.{arrival_of}
use Rattle.tap_steps.specs.Playlist.{IsPlaylist}
use Rattle.tap_steps.specs.declared.playlist.PlacedPacket.{PlacedPacket}

-- Captures end so because of what is in them: all were read to their end, or this one up to a torn or bad record, which is
-- given with its number.
abbrev pub EndsAs : InterfaceEnd → Option (ℕ × Fault) → Type 0
EndsAs Clean record_fault = record_fault ≡ None
EndsAs (Capture n (TornRecord place)) record_fault = record_fault ≡ Some (n, TornRecord place)
EndsAs (Capture n (BadFraction place)) record_fault = record_fault ≡ Some (n, BadFraction place)
EndsAs (Capture n (TooLong place)) record_fault = record_fault ≡ Some (n, TooLong place)
EndsAs end record_fault = ⊥

-- Where captures that were read by threads end for what stands in them, what arrived is their playlist: the one that steps replay.
abbrev pub GiveOnePlaylist : {S : Type 0} → (S → Option (List ℕ)) → (S → ℕ) → Type 0
GiveOnePlaylist {S} left failures =
    (texts : List (List ℕ)) (total n : ℕ) (before after : List S) (arrivals : List Arrival) (end : InterfaceEnd) (record_fault : Option (ℕ × Fault))
    → map left before ≡ map Some texts → GivesPlaylist left failures total n before after arrivals end → EndsAs end record_fault
    → (playlist : List PlacedPacket) × IsPlaylist n texts playlist record_fault × (arrivals ≡ map arrival_of playlist)
