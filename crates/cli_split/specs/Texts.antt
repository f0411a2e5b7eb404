-- How captures are read and written, said of the texts of files.
use Rattle.std.specs.Prelude.{◌≡◌, ◌≢◌, ◌⊎◌, ℕ, ◌+◌, ◌-◌, ◌^◌, ◌<◌, ◌≤◌, length, Bool, true, false, List, [], ◌∷◌, ◌++◌, Option, Some, None, Result, Ok, Err}
use Rattle.bpfvm.specs.declared.insn.Insn.{Insn}
use Rattle.savefile.specs.declared.fault.Fault.{Fault}
use Rattle.savefile.specs.declared.fault.Fault.TheVariants.{Device, NoMemory, CountFull}
use Rattle.savefile.specs.declared.header.Order.{Order}
use Rattle.savefile.specs.declared.header.Unit.{Unit as TimeUnit}
use Rattle.savefile.specs.declared.packet.Packet.{Packet}
use Rattle.savefile.specs.Savefile.{IsCapture, RefusesHeader}
use Rattle.pcap_cut.specs.Cut.{cut_text}
use Rattle.pcap_cut.specs.Outcome.{IsTally}
use Rattle.pcap_cut.specs.declared.cut.Tally.{Tally}
use Rattle.cli_store.specs.Files.{BeginsAt, Texts}
use Rattle.cli_split.specs.declared.split.Stop.{Stop}
use Rattle.cli_split.specs.declared.split.Stop.TheVariants.{AtHeader, AtRecord}

-- ---- What is read

-- Why the text of the n-th capture was not read beyond these packets. `total` packets were read of all captures, and `failed` says that a device
-- failed.
abbrev pub StopsSo : Bool → ℕ → ℕ → List ℕ → List Packet → Stop → Type 0
-- Its header is refused, memory was wanting, or the device failed.
StopsSo failed total n text packets (AtHeader m fault) =
    (m ≡ n) × (packets ≡ []) × (RefusesHeader text fault ⊎ (fault ≡ NoMemory) ⊎ ((fault ≡ Device) × (failed ≡ true)))
-- A torn or bad record comes after them; or the device failed, or no more packets can be counted, and these are the first of its packets.
StopsSo failed total n text packets (AtRecord m fault) =
    (m ≡ n) × (IsCapture text packets (Some fault)
    ⊎ ((after : List Packet) × (record_fault : Option Fault) × IsCapture text (packets ++ after) record_fault
    × (((fault ≡ Device) × (failed ≡ true)) ⊎ ((fault ≡ CountFull) × (total ≡ 2 ^ 64 - 1)))))

-- Captures of these texts, of which the first has this number, gave these packets, one capture after the other: each was read whole, up to the
-- first that was not.
abbrev pub ReadsTexts : Bool → ℕ → ℕ → List (List ℕ) → List Packet → Result (Unit {0}) Stop → Type 0
ReadsTexts failed total n [] packets end = (packets ≡ []) × (end ≡ Ok tt)
ReadsTexts failed total n (text ∷ texts) packets end =
    (these : List Packet) × (more : List Packet) × (packets ≡ these ++ more)
    × ((IsCapture text these None × ReadsTexts failed total (n + 1) texts more end)
    ⊎ ((stop : Stop) × (end ≡ Err stop) × StopsSo failed total n text these stop × (more ≡ [])))

-- a source gives this text, and has not failed
abbrev pub GivesText : {R : Type 0} → (R → Option (List ℕ)) → (R → ℕ) → List ℕ → R → Type 0
GivesText left failures text source = (left source ≡ Some text) × (failures source ≡ 0)

-- each source that failed made this true
abbrev pub NotesFailures : {R : Type 0} → (R → ℕ) → Bool → List R → Type 0
NotesFailures failures failed [] = Unit {0}
NotesFailures failures failed (s ∷ ss) = (failures s ≢ 0 → failed ≡ true) × NotesFailures failures failed ss

-- ---- What is written

-- The file at a place has the cut of these packets by a program, and they were counted; or a device failed, or the cut has more bytes than are
-- counted, and the file is as it was or has a beginning of the cut.
abbrev pub HoldsCut : Texts → Texts → Bool → List ℕ → List Insn → ℕ → Order → TimeUnit → List Packet → Tally → Result (Unit {0}) Fault → Type 0
HoldsCut old new failed at program snap order unit packets tally (Ok done) =
    (new at ≡ Some (cut_text program snap order unit packets)) × IsTally program packets tally
HoldsCut old new failed at program snap order unit packets tally (Err Device) =
    (failed ≡ true) × BeginsAt old new at (cut_text program snap order unit packets)
HoldsCut old new failed at program snap order unit packets tally (Err CountFull) =
    (2 ^ 64 ≤ length (cut_text program snap order unit packets)) × BeginsAt old new at (cut_text program snap order unit packets)
HoldsCut old new failed at program snap order unit packets tally (Err fault) = ⊥

-- The file at a place is as it was. That its writing failed comes only from a device.
abbrev pub StaysAt : Texts → Texts → Bool → List ℕ → Result (Unit {0}) Fault → Type 0
StaysAt old new failed at (Ok done) = new at ≡ old at
StaysAt old new failed at (Err fault) = (new at ≡ old at) × (fault ≡ Device) × (failed ≡ true)

-- where the writing was begun, the file has the cut; else it stays
abbrev pub HoldsPart : Bool → Texts → Texts → Bool → List ℕ → List Insn → ℕ → Order → TimeUnit → List Packet → Tally → Result (Unit {0}) Fault → Type 0
HoldsPart true old new failed at program snap order unit packets tally written = HoldsCut old new failed at program snap order unit packets tally written
HoldsPart false old new failed at program snap order unit packets tally written = StaysAt old new failed at written
