-- How captures are read, one after the other.
use Rattle.std.specs.Prelude.{◌≡◌, ◌≢◌, ◌↔◌, ℕ, ◌+◌, ◌-◌, ◌^◌, ◌<◌, ◌⊎◌, List, [], ◌∷◌, ◌++◌, length, Option, Some, None, IfSome, Result, Ok, Err}
use Rattle.std.specs.Io.KnownBytes.{Consumes}
use Rattle.savefile.specs.declared.fault.Fault.TheVariants.{Device, NoMemory, CountFull}
use Rattle.savefile.specs.declared.fault.Fault.{Fault}
use Rattle.savefile.specs.declared.header.Header.{Header}
use Rattle.savefile.specs.declared.packet.Packet.{Packet}
use Rattle.savefile.specs.declared.reader.Reader.{Reader}
use Rattle.savefile.specs.Reader.{HasGiven, WasBegun, WasRead, WasTaken}
use Rattle.savefile.specs.Savefile.{IsCapture, RefusesHeader}
use Rattle.pcap_cut.specs.Outcome.{StopsBehind}
use Rattle.cli_split.specs.declared.split.Stop.{Stop}
use Rattle.cli_split.specs.declared.split.Stop.TheVariants.{AtHeader, AtRecord}

-- How the n-th capture ended after these packets. Its source gave these bytes of the text, and `total` packets are those of all captures.
abbrev pub EndsSo : List ℕ → List ℕ → ℕ → ℕ → List Packet → Result (Unit {0}) Stop → Type 0
-- It was read whole.
EndsSo text given total n packets (Ok done) = IsCapture text packets None
-- Its header is refused, memory was wanting, or the source broke inside the header.
EndsSo text given total n packets (Err (AtHeader m fault)) =
    (m ≡ n) × (packets ≡ []) × (RefusesHeader text fault ⊎ (fault ≡ NoMemory) ⊎ ((fault ≡ Device) × (length given < 24)))
-- A torn or bad record comes after them; or the source broke, and what it had given stops after them; or no more packets can be
-- counted.
EndsSo text given total n packets (Err (AtRecord m fault)) =
    (m ≡ n) × (IsCapture text packets (Some fault)
    ⊎ ((after : List Packet) × (record_fault : Option Fault) × IsCapture text (packets ++ after) record_fault
    × (((fault ≡ Device) × StopsBehind given packets) ⊎ ((fault ≡ CountFull) × (total ≡ 2 ^ 64 - 1)))))

-- The n-th capture was read, whose source was `from` and is `to`: the text that it had left, and what it gave of that. A fault of
-- the device is reported if and only if it failed; and if memory ran out, the source is as it was.
pub record ReadsOne {R : Type 0} (left : R → Option (List ℕ)) (failures : R → ℕ) (from to : R) (total n : ℕ) (packets : List Packet) (end : Result (Unit {0}) Stop) : Type 0 where
  pub text : List ℕ
  pub told : IfSome (left from) (λ bytes. bytes ≡ text)
  pub given : List ℕ
  pub gave : Consumes (left from) (left to) given
  pub ends : EndsSo text given total n packets end
  pub broke : ((end ≡ Err (AtHeader n Device)) ⊎ (end ≡ Err (AtRecord n Device))) ↔ (failures to ≢ failures from)
  pub unread : end ≡ Err (AtHeader n NoMemory) → to ≡ from

-- Captures were read, of which the first has this number, and gave these packets, `total` in all with those before: each one whole, or up
-- to the first that was not. The sources after that are as they were.
abbrev pub ReadsAll : {R : Type 0} → (R → Option (List ℕ)) → (R → ℕ) → ℕ → ℕ → List R → List R → List Packet → Result (Unit {0}) Stop → Type 0
ReadsAll left failures total n [] [] packets end = (packets ≡ []) × (end ≡ Ok tt)
ReadsAll left failures total n [] (t ∷ ts) packets end = ⊥
ReadsAll left failures total n (s ∷ ss) [] packets end = ⊥
ReadsAll left failures total n (s ∷ ss) (t ∷ ts) packets end =
    (these : List Packet) × (more : List Packet) × (packets ≡ these ++ more)
    × ((ReadsOne left failures s t total n these (Ok tt) × ReadsAll left failures total (n + 1) ss ts more end)
    ⊎ ((stop : Stop) × (end ≡ Err stop) × ReadsOne left failures s t total n these end × (more ≡ []) × (ts ≡ ss)))

-- How a reader that has given these packets came to an end, with `left` left in its source.
abbrev pub GaveSo : Option (List ℕ) → Option (List ℕ) → Header → ℕ → List Packet → Result (Unit {0}) Fault → Type 0
GaveSo from left header total packets (Ok done) = WasRead from header packets None
GaveSo from left header total packets (Err fault) =
    WasRead from header packets (Some fault)
    ⊎ (WasBegun from header packets
    × (((fault ≡ Device) × WasTaken from left header packets) ⊎ ((fault ≡ CountFull) × (total ≡ 2 ^ 64 - 1))))

-- how the n-th capture ended, whose header was read
abbrev pub end_of : ℕ → Result (Unit {0}) Fault → Result (Unit {0}) Stop
end_of n (Ok done) = Ok done
end_of n (Err fault) = Err (AtRecord n fault)

-- A reader has just read the header of this source.
pub record HasOpened {R : Type 0} (left : R → Option (List ℕ)) (failures : R → ℕ) (from : R) (reader : Reader R) : Type 0 where
  pub header : Header
  pub given : HasGiven left (left from) header [] reader
  pub bytes : List ℕ
  pub took : Consumes (left from) (left reader.source) bytes
  pub works : failures reader.source ≡ failures from

-- Some captures of all were read, and `n` is the number of the next. Where each was whole, what the rest gives makes it all; else the rest
-- comes back as it is.
abbrev pub ReadsSoFar : {R : Type 0} → (R → Option (List ℕ)) → (R → ℕ) → List R → List R → ℕ → List R → List Packet → Result (Unit {0}) Stop → Type 0
ReadsSoFar {R} left failures all sources n rest packets (Ok done) =
    (total : ℕ) (others : List R) (more : List Packet) (end : Result (Unit {0}) Stop) → ReadsAll left failures total n rest others more end
    → ReadsAll left failures total 0 all (sources ++ others) (packets ++ more) end
ReadsSoFar left failures all sources n rest packets (Err stop) = ReadsAll left failures (length packets) 0 all (sources ++ rest) packets (Err stop)
