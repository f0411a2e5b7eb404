-- What `bpftap split` does to the files. Read it from the last definition up.
use Rattle.std.specs.Prelude.{◌≡◌, ◌≢◌, ◌⊎◌, ℕ, ◌<◌, ◌≤◌, ◌++◌, ◌&&◌, ◌||◌, Bool, true, false, if◌then◌else◌, List, [], ◌∷◌, length, map, All, Any, Option, Some, None, ⊤}
use Rattle.std.specs.Borrow.{Bor}
use Rattle.std.specs.List.{AllZip}
use Rattle.std.specs.declared.io.Error.{Error}
use Rattle.bpfvm.specs.declared.insn.Insn.{Insn}
use Rattle.savefile.specs.declared.packet.Packet.{Packet}
use Rattle.line_text.specs.declared.form.LineForm.TheVariants.{Text, Json}
use Rattle.line_text.specs.declared.form.NamingForm.{NamingForm}
use Rattle.cli_args.specs.declared.split.SplitWords.{SplitWords}
use Rattle.cli_files.specs.Paths.{IsPathStatus}
use Rattle.cli_files.specs.Reading.{IsRefusedMemory}
use Rattle.cli_files.specs.declared.reading.TheConstants.{MAX_TEXT}
use Rattle.cli_store.specs.Files.{IsRefusal, Places, Texts, text_at}
use Rattle.cli_text.specs.declared.status.Status.{Status}
use Rattle.cli_text.specs.declared.status.Status.TheVariants as status
use Rattle.cli_split.specs.Lines.{AreSplitLines, IsCompiled, IsRefusedPlan, is_null}
use Rattle.cli_split.specs.Splitting.{is_begun}
use Rattle.cli_split.specs.Statuses.{ReportsSplit}
use Rattle.cli_split.specs.Texts.{HoldsPart, ReadsTexts}
use Rattle.cli_split.specs.declared.outcome.Refusal.{Refusal}
use Rattle.cli_split.specs.declared.outcome.Refusal.TheVariants as refusal
use Rattle.cli_split.specs.declared.outcome.SplitOutcome.{SplitOutcome}
use Rattle.cli_split.specs.declared.outcome.SplitOutcome.TheVariants.{Refused, Ended}
use Rattle.cli_split.specs.declared.outcome.SplitReport.{SplitReport}
use Rattle.cli_split.specs.declared.part.PartEnd.{PartEnd}
use Rattle.cli_split.specs.declared.plan.SplitLine.{SplitLine}
use Rattle.cli_split.specs.declared.split.SplitEnd.{SplitEnd}

-- ---- LINES

-- a file has these bytes, and no more than a text may have
abbrev pub IsTextOf : Places → Texts → List ℕ → List ℕ → Type 0
IsTextOf place text path bytes = (text (place path) ≡ Some bytes) × (length bytes ≤ MAX_TEXT)

-- a file has more
abbrev pub IsLongText : Places → Texts → List ℕ → Type 0
IsLongText place text path = (whole : List ℕ) × (text (place path) ≡ Some whole) × (MAX_TEXT < length whole)

-- LINES asks for these, at most 1,024
pub record AreAsked (place : Places) (text : Texts) (words : SplitWords) (lines : List SplitLine) : Type 0 where
  pub bytes : List ℕ
  pub read : IsTextOf place text words.lines.now bytes
  pub say : AreSplitLines bytes lines
  pub few : length lines ≤ 1024

-- ---- The paths

-- no file that is read, LINES or a capture, is that of an OUT
abbrev pub AreApart : Places → SplitWords → List SplitLine → Type 0
AreApart place words lines = All (λ line. All (λ path. place path.now ≢ place line.output.now) (words.lines ∷ words.inputs.items)) lines

-- standard output goes to none of these files
abbrev pub AreUnprinted : Places → Option (List ℕ) → SplitWords → List SplitLine → Type 0
AreUnprinted place printed words lines =
    All (λ path. printed ≢ Some (place path.now)) (words.lines ∷ words.inputs.items) × All (λ line. printed ≢ Some (place line.output.now)) lines

-- no two lines have one file, but for `/dev/null`
abbrev pub HaveOwnFiles : Places → List SplitLine → Type 0
HaveOwnFiles place [] = ⊤
HaveOwnFiles place (line ∷ lines) =
    All (λ later. ((is_null line.output.now ≡ true) × (is_null later.output.now ≡ true)) ⊎ (place later.output.now ≢ place line.output.now)) lines
    × HaveOwnFiles place lines

-- the OUTs of lines; `/dev/null` stands among them once at most, and not at all if it was seen before
abbrev pub own_outputs : Bool → List SplitLine → List (Bor (List ℕ))
own_outputs seen [] = []
own_outputs seen (line ∷ lines) =
    (if seen && is_null line.output.now then [] else line.output ∷ []) ++ own_outputs (seen || is_null line.output.now) lines

-- why the OUTs of lines may not be written
abbrev pub IsShared : Places → Option (List ℕ) → Bool → SplitWords → List SplitLine → Refusal → Type 0
IsShared place printed failed words lines (refusal.Paths fault) =
    IsRefusal place printed failed true (words.lines ∷ words.inputs.items) (own_outputs false lines) fault
IsShared place printed failed words lines refusal.NoMemory = ⊤
IsShared place printed failed words lines other = ⊥

-- ---- The OUTs

-- The OUT of a line has the cut of these packets, by the program of the line's expression and to the line's snapshot length, or a beginning
-- of it, if the writing was begun. `/dev/null` got the same, and keeps nothing.
pub record IsCut {W : Type 0} (place : Places) (old new : Texts) (failed : Bool) (words : SplitWords) (packets : List Packet) (begun : Bool) (line : SplitLine) (part : PartEnd W) : Type 0 where
  pub program : List Insn
  pub stands : IsCompiled line program
  pub got : Texts
  pub holds : HoldsPart begun old got failed (place line.output.now) program line.snap words.order words.«unit» packets part.tally part.written
  pub keeps : is_null line.output.now ≡ false → new (place line.output.now) ≡ got (place line.output.now)

-- ---- The command

-- The captures were read in order, up to the first fault, and the OUT of each line has the cut of their packets: if the header of the first
-- capture was read. No other file changed.
pub record IsSplit {R W : Type 0} (place : Places) (old new : Texts) (failed : Bool) (words : SplitWords) (lines : List SplitLine) (end : SplitEnd R W) : Type 0 where
  pub packets : List Packet
  pub reads : ReadsTexts failed (length packets) 0 (map (λ path. text_at old (place path.now)) words.inputs.items) packets end.end
  pub cut : AllZip (IsCut place old new failed words packets (is_begun words.inputs.items end.end)) lines end.parts.items
  pub others : (p : List ℕ) → All (λ line. place line.output.now ≢ p) lines → new p ≡ old p

-- the file at a path could not be read or made, or memory was refused for that
abbrev pub IsDenied : Places → Option (List ℕ) → List ℕ → Error → Type 0
IsDenied place denied path error = IsRefusedMemory error ⊎ (denied ≡ Some (place path))

-- a file of the split: LINES, a capture, or the OUT of a line
abbrev pub IsFileOf : Places → Texts → SplitWords → List ℕ → Type 0
IsFileOf place text words path =
    (path ≡ words.lines.now) ⊎ Any (λ input. input.now ≡ path) words.inputs.items
    ⊎ ((lines : List SplitLine) × AreAsked place text words lines × Any (λ line. line.output.now ≡ path) lines)

-- Why nothing was split: LINES is refused, is too long, or could not be read; an OUT may not be written, or none could be made; or memory
-- was refused.
abbrev pub IsReason : Places → Texts → Option (List ℕ) → Bool → Option (List ℕ) → SplitWords → Refusal → Type 0
IsReason place text printed failed denied words (refusal.Lines bytes fault) = IsTextOf place text words.lines.now bytes.now × IsRefusedPlan bytes.now fault
IsReason place text printed failed denied words (refusal.TextTooLong path) = (path.now ≡ words.lines.now) × IsLongText place text words.lines.now
IsReason place text printed failed denied words (refusal.Paths fault) =
    (lines : List SplitLine) × AreAsked place text words lines × IsShared place printed failed words lines (refusal.Paths fault)
IsReason place text printed failed denied words (refusal.File path error) =
    IsFileOf place text words path.now × IsDenied place denied path.now error
IsReason place text printed failed denied words refusal.NoMemory = ⊤

-- The captures were split as LINES asks.
pub record SplitsInto (place : Places) (old new : Texts) (printed : Option (List ℕ)) (failed : Bool) (words : SplitWords) (report : SplitReport) : Type 0 where
  pub asked : AreAsked place old words report.lines.items
  pub apart : AreApart place words report.lines.items
  pub own : HaveOwnFiles place report.lines.items
  pub unprinted : AreUnprinted place printed words report.lines.items
  pub split : IsSplit place old new failed words report.lines.items report.end

-- A call of `bpftap split`: nothing was done and the refusal says why, or the captures were split.
abbrev pub SplitsFiles : Places → Texts → Texts → Option (List ℕ) → Bool → Option (List ℕ) → SplitWords → SplitOutcome → Type 0
SplitsFiles place old new printed failed denied words (Refused reason) =
    IsReason place old printed failed denied words reason × ((p : List ℕ) → new p ≡ old p)
SplitsFiles place old new printed failed denied words (Ended report) = SplitsInto place old new printed failed words report

-- ---- What is printed, and the exit status

-- of a file that could not be read or made
abbrev pub IsFileStatus : Error → Status → Type 0
IsFileStatus error ended = (IsRefusedMemory error → ended ≡ status.Refused) × ((IsRefusedMemory error → ⊥) → ended ≡ status.Failed)

abbrev pub IsRefusalStatus : Refusal → Status → Type 0
IsRefusalStatus (refusal.Lines bytes fault) ended = ended ≡ status.Refused
IsRefusalStatus (refusal.TextTooLong path) ended = ended ≡ status.Refused
IsRefusalStatus (refusal.Paths fault) ended = IsPathStatus fault ended
IsRefusalStatus (refusal.File path error) ended = IsFileStatus error ended
IsRefusalStatus refusal.NoMemory ended = ended ≡ status.Refused

-- the form of the lines that are printed, to a terminal or not
abbrev pub form_of : Bool → SplitWords → NamingForm
form_of is_terminal words = record { form = if words.json then Json else Text; is_terminal = is_terminal }

-- Of a refusal nothing is printed; else the counts of each OUT that was written whole are.
abbrev pub ReportsOutcome : Bool → SplitWords → SplitOutcome → Option (List ℕ) → Option (List ℕ) → Status → Type 0
ReportsOutcome is_terminal words (Refused reason) old new ended = IsRefusalStatus reason ended × (new ≡ old)
ReportsOutcome is_terminal words (Ended report) old new ended = ReportsSplit (form_of is_terminal words) report.lines.items report.end old new ended
