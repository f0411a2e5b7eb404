-- The playlist: the packets of several captures, in order.
use Rattle.std.specs.Prelude.{◌≡◌, ℕ, ◌+◌, List, [], ◌∷◌, ◌++◌, Option, Some, None, ◌⊎◌, slice_get, take}
use Rattle.savefile.specs.declared.fault.Fault.{Fault}
use Rattle.savefile.specs.declared.packet.Packet.{Packet}
use Rattle.savefile.specs.Savefile.{RefusesHeader, IsCapture}
use Rattle.tap_steps.specs.declared.fault.PlaylistFault.{PlaylistFault}
use Rattle.tap_steps.specs.declared.fault.PlaylistFault.TheVariants.{Capture, NoMemory}
use Rattle.tap_steps.specs.declared.playlist.PlacedPacket.{PlacedPacket}

-- the packets of a capture with its number and their places there, from a place on
abbrev pub placed : ℕ → ℕ → List Packet → List PlacedPacket
placed capture place [] = []
placed capture place (p ∷ ps) = record { capture = capture; place = place; packet = p } ∷ placed capture (place + 1) ps

-- The packets of the captures in order, which are numbered from n on. The first capture with a record fault gives its
-- packets before that fault and ends the playlist; its number and the fault stand beside it.
abbrev pub IsPlaylist : ℕ → List (List ℕ) → List PlacedPacket → Option (ℕ × Fault) → Type 0
IsPlaylist n [] list record_fault = (list ≡ []) × (record_fault ≡ None)
IsPlaylist n (text ∷ texts) list record_fault =
    ((packets : List Packet) × (more : List PlacedPacket) × IsCapture text packets None
    × (list ≡ placed n 0 packets ++ more) × IsPlaylist (n + 1) texts more record_fault)
    ⊎ ((packets : List Packet) × (fault : Fault) × IsCapture text packets (Some fault)
    × (list ≡ placed n 0 packets) × (record_fault ≡ Some (n, fault)))

-- no capture's header is refused
abbrev pub NoHeaderIsRefused : List (List ℕ) → Type 0
NoHeaderIsRefused [] = Unit {0}
NoHeaderIsRefused (text ∷ texts) = ((fault : Fault) → RefusesHeader text fault → ⊥) × NoHeaderIsRefused texts

-- a capture's header is refused, and no header before it is
abbrev pub RefusesCapture : List (List ℕ) → PlaylistFault → Type 0
RefusesCapture texts (Capture n fault) =
    (text : List ℕ) × (slice_get texts n ≡ Some text) × RefusesHeader text fault × NoHeaderIsRefused (take n texts)
RefusesCapture texts NoMemory = ⊥
