-- What `bpftap cut` of one capture does to the files. Read it from the last definition up.
use Rattle.std.specs.Prelude.{◌≡◌, ◌≢◌, ◌⊎◌, ℕ, ◌-◌, ◌^◌, ◌<◌, ◌≤◌, length, Bool, true, List, [], ◌∷◌, ◌++◌, Option, Some, None, IfSome, option_copied, ⊤}
use Rattle.std.specs.Borrow.{Bor}
use Rattle.std.specs.List.{Any}
use Rattle.bpfvm.specs.declared.insn.Insn.{Insn}
use Rattle.savefile.specs.Savefile.{IsCapture, RefusesHeader}
use Rattle.savefile.specs.Writer.{IsBeginning}
use Rattle.savefile.specs.declared.header.Order.{Order}
use Rattle.savefile.specs.declared.header.Unit.{Unit as TimeUnit}
use Rattle.savefile.specs.declared.fault.Fault.{Fault}
use Rattle.savefile.specs.declared.fault.Fault.TheVariants.{ShortHeader, NotSavefile, Version, LinkType, NoMemory, Device, CountFull}
use Rattle.savefile.specs.declared.packet.Packet.{Packet}
use Rattle.pcap_cut.specs.Cut.{cut_text}
use Rattle.pcap_cut.specs.Outcome.{IsTally}
use Rattle.pcap_cut.specs.declared.cut.End.{End}
use Rattle.pcap_cut.specs.declared.cut.End.TheVariants.{Clean, Input, Output}
use Rattle.pcap_cut.specs.declared.cut.Tally.{Tally}
use Rattle.cli_filter.specs.Filter.{IsFilter, IsNoFilter}
use Rattle.cli_filter.specs.declared.program.FilterFault.{FilterFault}
use Rattle.cli_filter.specs.declared.program.FilterFault.TheVariants.{Twice}
use Rattle.cli_files.specs.Reading.{IsRefusedMemory}
use Rattle.cli_files.specs.declared.reading.TheConstants.{MAX_TEXT}
use Rattle.cli_files.specs.declared.paths.PathFault.{PathFault}
use Rattle.cli_files.specs.declared.paths.PathFault.TheVariants as paths
use Rattle.cli_files.specs.Paths.{IsPathStatus}
use Rattle.std.specs.declared.io.Error.{Error}
use Rattle.cli_text.specs.declared.status.Status.{Status}
use Rattle.cli_text.specs.declared.status.Status.TheVariants as status
use Rattle.cli_store.specs.Files.{Places, Texts}
use Rattle.cli_cut.specs.Telling.{status_of}
use Rattle.cli_args.specs.declared.cut.CutWords.{CutWords}
use Rattle.cli_cut.specs.declared.outcome.Refusal.{Refusal}
use Rattle.cli_cut.specs.declared.outcome.Refusal.TheVariants as refusal
use Rattle.cli_cut.specs.declared.outcome.CutOutcome.{CutOutcome}
use Rattle.cli_cut.specs.declared.outcome.CutOutcome.TheVariants.{Refused, Ended}

-- ---- The filter

-- the program that is asked for: that of the listing's file, or that of the expression
abbrev pub IsGiven : Places → Texts → Option (List ℕ) → Option (List ℕ) → ℕ → List Insn → Type 0
IsGiven place text (Some path) (Some expr) snap program = ⊥
IsGiven place text (Some path) None snap program =
    (listing : List ℕ) × (text (place path) ≡ Some listing) × IsFilter (Some listing) None 0 program
IsGiven place text None expr snap program = IsFilter None expr snap program

-- why the listing's file, or the expression, gives no program; or both are given
abbrev pub IsUnfit : Places → Texts → Option (List ℕ) → Option (List ℕ) → ℕ → FilterFault → Type 0
IsUnfit place text (Some path) (Some expr) snap fault = fault ≡ Twice
IsUnfit place text (Some path) None snap fault =
    (listing : List ℕ) × (text (place path) ≡ Some listing) × IsNoFilter (Some listing) None 0 fault
IsUnfit place text None expr snap fault = IsNoFilter None expr snap fault

-- a file has more bytes than a text may have
abbrev pub IsLongText : Places → Texts → List ℕ → Type 0
IsLongText place text path = (whole : List ℕ) × (text (place path) ≡ Some whole) × (MAX_TEXT < length whole)

-- the file at a path could not be read, opened or made, or memory was refused for that
abbrev pub IsDenied : Places → Option (List ℕ) → List ℕ → Error → Type 0
IsDenied place denied path error = IsRefusedMemory error ⊎ (denied ≡ Some (place path))

-- it could not be reached, so that it was not compared with others
abbrev pub IsUnreached : Places → Bool → Option (List ℕ) → List ℕ → Error → Type 0
IsUnreached place failed denied path error = (IsRefusedMemory error ⊎ (failed ≡ true)) × IsDenied place denied path error

-- why there is no program
abbrev pub IsUngiven : Places → Texts → Option (List ℕ) → Option (List ℕ) → Option (List ℕ) → ℕ → Refusal → Type 0
IsUngiven place text denied listing expr snap (refusal.Filter kept fault) = IsUnfit place text listing expr snap fault
IsUngiven place text denied listing expr snap (refusal.TextTooLong path) = (listing ≡ Some path.now) × IsLongText place text path.now
IsUngiven place text denied listing expr snap (refusal.File path error) = (listing ≡ Some path.now) × IsDenied place denied path.now error
IsUngiven place text denied listing expr snap other = ⊥

-- ---- The paths

-- OUT is the file of an IN, or that of the listing
abbrev pub IsTogether : Places → CutWords → List (Bor (List ℕ)) → Type 0
IsTogether place words inputs =
    Any (λ input. place input.now ≡ place words.output.now) inputs
    ⊎ ((path : List ℕ) × (option_copied words.listing ≡ Some path) × (place path ≡ place words.output.now))

-- OUT is not the listing's file
abbrev pub SparesListing : Places → CutWords → Type 0
SparesListing place words = (path : List ℕ) → option_copied words.listing ≡ Some path → place path ≢ place words.output.now

-- why OUT may not be written
abbrev pub IsShared : Places → Bool → Option (List ℕ) → CutWords → List (Bor (List ℕ)) → PathFault → Type 0
IsShared place failed denied words inputs (paths.Same path taken_for) = IsTogether place words inputs
IsShared place failed denied words inputs (paths.Printed path) = ⊥
IsShared place failed denied words inputs (paths.Unknown path error) = IsUnreached place failed denied path.now error
IsShared place failed denied words inputs paths.NoMemory = ⊤

-- ---- What OUT has

-- the file at a place is the cut of a text by a program: of its packets, up to its end or to this fault; and they were counted
pub record WrittenAt (new : Texts) (at text : List ℕ) (program : List Insn) (snap : ℕ) (order : Order) (unit : TimeUnit) (tally : Tally) (fault : Option Fault) : Type 0 where
  pub packets : List Packet
  pub reads : IsCapture text packets fault
  pub written : new at ≡ Some (cut_text program snap order unit packets)
  pub counted : IsTally program packets tally

-- the file at a place has a beginning of the cut of the first packets of a text
pub record HasBegun (new : Texts) (at text : List ℕ) (program : List Insn) (snap : ℕ) (order : Order) (unit : TimeUnit) : Type 0 where
  pub packets : List Packet
  pub others : List Packet
  pub fault : Option Fault
  pub reads : IsCapture text (packets ++ others) fault
  pub front : List ℕ
  pub written : new at ≡ Some front
  pub begins : IsBeginning front (cut_text program snap order unit packets)

-- the file at a place is as it was, or has a beginning of the cut of a text
abbrev pub BrokeOffAt : Texts → Texts → List ℕ → List ℕ → List Insn → ℕ → Order → TimeUnit → Type 0
BrokeOffAt old new at text program snap order unit = (new at ≡ old at) ⊎ HasBegun new at text program snap order unit

-- more packets than are counted, or more bytes
pub record IsTooLarge (text : List ℕ) (program : List Insn) (snap : ℕ) (order : Order) (unit : TimeUnit) : Type 0 where
  pub packets : List Packet
  pub fault : Option Fault
  pub reads : IsCapture text packets fault
  pub large : (2 ^ 64 - 1 ≤ length packets) ⊎ (2 ^ 64 ≤ length (cut_text program snap order unit packets))

-- the file at a place after a cut of a text that ended so
abbrev pub Ends : Texts → Texts → Bool → List ℕ → List ℕ → List Insn → ℕ → Order → TimeUnit → Tally → End → Type 0
Ends old new failed at text program snap order unit tally Clean = WrittenAt new at text program snap order unit tally None
Ends old new failed at text program snap order unit tally (Input ShortHeader) = RefusesHeader text ShortHeader × (new at ≡ old at)
Ends old new failed at text program snap order unit tally (Input NotSavefile) = RefusesHeader text NotSavefile × (new at ≡ old at)
Ends old new failed at text program snap order unit tally (Input Version) = RefusesHeader text Version × (new at ≡ old at)
Ends old new failed at text program snap order unit tally (Input LinkType) = RefusesHeader text LinkType × (new at ≡ old at)
Ends old new failed at text program snap order unit tally (Input NoMemory) = new at ≡ old at
Ends old new failed at text program snap order unit tally (Input Device) = (failed ≡ true) × BrokeOffAt old new at text program snap order unit
Ends old new failed at text program snap order unit tally (Input CountFull) = IsTooLarge text program snap order unit × BrokeOffAt old new at text program snap order unit
Ends old new failed at text program snap order unit tally (Input fault) = WrittenAt new at text program snap order unit tally (Some fault)
Ends old new failed at text program snap order unit tally (Output Device) = (failed ≡ true) × BrokeOffAt old new at text program snap order unit
Ends old new failed at text program snap order unit tally (Output CountFull) = IsTooLarge text program snap order unit × BrokeOffAt old new at text program snap order unit
Ends old new failed at text program snap order unit tally (Output fault) = ⊥

-- ---- The command

-- a file that is read: an IN, or the listing
abbrev pub IsRead : CutWords → List (Bor (List ℕ)) → List ℕ → Type 0
IsRead words inputs path = Any (λ input. input.now ≡ path) inputs ⊎ (option_copied words.listing ≡ Some path)

-- Why nothing was done: there is no filter, OUT is an IN or the listing's file, memory was refused, or a file that is named could not be read,
-- opened or made.
abbrev pub IsReason : Places → Texts → Bool → Option (List ℕ) → CutWords → List (Bor (List ℕ)) → Refusal → Type 0
IsReason place text failed denied words inputs (refusal.Paths fault) = IsShared place failed denied words inputs fault
IsReason place text failed denied words inputs (refusal.File path error) =
    (IsRead words inputs path.now ⊎ (path.now ≡ words.output.now)) × IsDenied place denied path.now error
IsReason place text failed denied words inputs refusal.NoMemory = ⊤
IsReason place text failed denied words inputs other =
    IsUngiven place text denied (option_copied words.listing) (option_copied words.expr) words.snap other

-- the paths are refused, or could not be compared
abbrev pub IsUncompared : Places → Bool → Option (List ℕ) → CutWords → List (Bor (List ℕ)) → Refusal → Type 0
IsUncompared place failed denied words inputs (refusal.Paths fault) = IsShared place failed denied words inputs fault
IsUncompared place failed denied words inputs refusal.NoMemory = ⊤
IsUncompared place failed denied words inputs other = ⊥

-- OUT could not be made
abbrev pub IsUnmade : Places → Option (List ℕ) → CutWords → Refusal → Type 0
IsUnmade place denied words (refusal.File path error) = (path.now ≡ words.output.now) × IsDenied place denied path.now error
IsUnmade place denied words refusal.NoMemory = ⊤
IsUnmade place denied words other = ⊥

-- IN was cut into OUT by the program that is asked for.
pub record CutsInto (place : Places) (old new : Texts) (failed : Bool) (words : CutWords) (input : List ℕ) (tally : Tally) (end : End) : Type 0 where
  pub program : List Insn
  pub given : IsGiven place old (option_copied words.listing) (option_copied words.expr) words.snap program
  pub apart : place input ≢ place words.output.now
  pub spares : SparesListing place words
  pub text : List ℕ
  pub read : old (place input) ≡ Some text
  pub ends : Ends old new failed (place words.output.now) text program words.snap words.order words.«unit» tally end

-- nothing was done and the refusal says why, or IN was cut
abbrev pub ComesTo : Places → Texts → Texts → Bool → Option (List ℕ) → CutWords → Bor (List ℕ) → CutOutcome → Type 0
ComesTo place old new failed denied words input (Refused reason) =
    IsReason place old failed denied words (input ∷ []) reason × ((p : List ℕ) → new p ≡ old p)
ComesTo place old new failed denied words input (Ended report) = CutsInto place old new failed words input.now report.tally report.end

-- A call of `bpftap cut` of one capture: no file but OUT changed.
pub record CutsFiles (place : Places) (old new : Texts) (failed : Bool) (denied : Option (List ℕ)) (words : CutWords) (input : Bor (List ℕ)) (outcome : CutOutcome) : Type 0 where
  pub others : (p : List ℕ) → p ≢ place words.output.now → new p ≡ old p
  pub came_to : ComesTo place old new failed denied words input outcome

-- ---- The exit status

-- of a file that could not be read, opened or made
abbrev pub IsFileStatus : Error → Status → Type 0
IsFileStatus error ended = (IsRefusedMemory error → ended ≡ status.Refused) × ((IsRefusedMemory error → ⊥) → ended ≡ status.Failed)

abbrev pub IsRefusalStatus : Refusal → Status → Type 0
IsRefusalStatus (refusal.Filter kept fault) ended = ended ≡ status.Refused
IsRefusalStatus (refusal.TextTooLong path) ended = ended ≡ status.Refused
IsRefusalStatus (refusal.Paths fault) ended = IsPathStatus fault ended
IsRefusalStatus (refusal.File path error) ended = IsFileStatus error ended
IsRefusalStatus refusal.NoMemory ended = ended ≡ status.Refused

abbrev pub IsStatusOf : CutOutcome → Status → Type 0
IsStatusOf (Refused reason) ended = IsRefusalStatus reason ended
IsStatusOf (Ended report) ended = ended ≡ status_of report.end
