-- What captures give to the listeners of an interface, and how they end.
use Rattle.std.specs.Prelude.{◌≡◌, ◌≢◌, ℕ, ◌+◌, ◌-◌, ◌^◌, ◌⊎◌, List, [], ◌∷◌, ◌++◌, Option, Some, None}
use Rattle.std.specs.Io.KnownBytes.{Consumes}
use Rattle.listener.specs.Messages.{Arrival, arrival}
use Rattle.savefile.specs.Reader.{WasBegun, WasRead, WasRefused}
use Rattle.savefile.specs.declared.fault.Fault.{Fault}
use Rattle.savefile.specs.declared.fault.Fault.TheVariants as fault
use Rattle.savefile.specs.declared.header.Header.{Header}
use Rattle.savefile.specs.declared.packet.Packet.{Packet}
use Rattle.replay_types.specs.declared.report.InterfaceEnd.{InterfaceEnd}
use Rattle.replay_types.specs.declared.report.InterfaceEnd.TheVariants.{Clean, Capture, CountFull}

-- the packets of a capture as they arrive, of which the first has this place
abbrev pub arrivals_from : ℕ → ℕ → List Packet → List Arrival
arrivals_from capture place [] = []
arrivals_from capture place (p ∷ ps) = arrival capture place p ∷ arrivals_from capture (place + 1) ps

-- Why a capture ended before its end, after these packets: its header is refused; a record's fault comes after them; its
-- source failed, and they begin what it holds; or memory was refused, and it gave nothing.
abbrev pub IsStopped : Option (List ℕ) → Type 0 → List Packet → Fault → Type 0
IsStopped start source_failed packets why =
    (WasRefused start why × (packets ≡ []))
    ⊎ ((header : Header) × WasRead start header packets (Some why))
    ⊎ ((why ≡ fault.Device) × source_failed × ((packets ≡ []) ⊎ ((header : Header) × WasBegun start header packets)))
    ⊎ ((why ≡ fault.NoMemory) × (packets ≡ []))

-- How a capture ended, of which these packets arrived: it was read whole; it has a fault; or no more arrivals can be counted.
abbrev pub EndsSo : Option (List ℕ) → Type 0 → ℕ → ℕ → List Packet → Option InterfaceEnd → Type 0
EndsSo start source_failed capture arrived packets None = (header : Header) × WasRead start header packets None
EndsSo start source_failed capture arrived packets (Some Clean) = ⊥
EndsSo start source_failed capture arrived packets (Some (Capture n why)) =
    (n ≡ capture) × (why ≢ fault.Failed) × (why ≢ fault.CountFull) × IsStopped start source_failed packets why
EndsSo start source_failed capture arrived packets (Some CountFull) = (arrived ≡ 2 ^ 64 - 2) × (header : Header) × WasBegun start header packets

-- A source that was read comes back: bytes were taken of what it had left, and no others; and it did not fail in between, unless
-- the capture ended so.
abbrev pub ComesBack : {R : Type 0} → (R → Option (List ℕ)) → (R → ℕ) → R → R → ℕ → Option InterfaceEnd → Type 0
ComesBack left failures s t capture end =
    ((bytes : List ℕ) × Consumes (left s) (left t) bytes) × ((end ≡ Some (Capture capture fault.Device)) ⊎ (failures t ≡ failures s))

-- A capture was read, these packets of it arrived, and so it ended; `arrived` is the number of all arrivals at the interface.
abbrev pub GivesPackets : {R : Type 0} → (R → Option (List ℕ)) → (R → ℕ) → R → R → ℕ → ℕ → List Packet → Option InterfaceEnd → Type 0
GivesPackets left failures s t capture arrived packets end =
    EndsSo (left s) (failures t ≢ failures s) capture arrived packets end × ComesBack left failures s t capture end

-- A list of captures was read, of which the first has this number: so the playlist arrived, of `total` packets in all, and so it
-- ended. Each capture was read whole, or it ended the playlist, and no capture after it was read: their sources are as they were.
abbrev pub GivesPlaylist : {R : Type 0} → (R → Option (List ℕ)) → (R → ℕ) → ℕ → ℕ → List R → List R → List Arrival → InterfaceEnd → Type 0
GivesPlaylist left failures total capture [] [] playlist end = (playlist ≡ []) × (end ≡ Clean)
GivesPlaylist left failures total capture [] (t ∷ ts) playlist end = ⊥
GivesPlaylist left failures total capture (s ∷ ss) [] playlist end = ⊥
GivesPlaylist left failures total capture (s ∷ ss) (t ∷ ts) playlist end =
    (packets : List Packet) × (more : List Arrival) × (playlist ≡ arrivals_from capture 0 packets ++ more)
    × ((GivesPackets left failures s t capture total packets None × GivesPlaylist left failures total (capture + 1) ss ts more end)
    ⊎ (GivesPackets left failures s t capture total packets (Some end) × (more ≡ []) × (ts ≡ ss)))
