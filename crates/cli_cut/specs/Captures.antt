-- What `bpftap cut` of several captures does to the files. Read it from the last definition up.
use Rattle.std.specs.Prelude.{◌≡◌, ◌≢◌, ◌≤◌, ℕ, length, map, Bool, List, [], ◌∷◌, Option, Some, None, Result, Ok, Err, slice_get, if◌then◌else◌, option_copied, vec_capacity, ⊤, All}
use Rattle.std.specs.Borrow.{Bor}
use Rattle.std.specs.List.{Any}
use Rattle.std.specs.declared.io.Error.{Error}
use Rattle.bpfvm.specs.declared.insn.Insn.{Insn}
use Rattle.savefile.specs.declared.device.Counted.{Counted}
use Rattle.savefile.specs.declared.fault.Fault.{Fault}
use Rattle.savefile.specs.declared.packet.Packet.{Packet}
use Rattle.pcap_cut.specs.declared.cut.Tally.{Tally}
use Rattle.line_text.specs.declared.form.LineForm.{LineForm}
use Rattle.cli_text.specs.declared.status.Status.{Status}
use Rattle.cli_args.specs.declared.cut.CutWords.{CutWords}
use Rattle.cli_report.specs.declared.probe.FailureProbe.{FailureProbe}
use Rattle.cli_store.specs.Files.{Places, Texts, text_at}
use Rattle.cli_split.specs.Splitting.{HasRoom, is_begun, passes_header}
use Rattle.cli_split.specs.Statuses.{split_status}
use Rattle.cli_split.specs.Texts.{HoldsPart, ReadsTexts}
use Rattle.cli_split.specs.declared.part.PartEnd.{PartEnd}
use Rattle.cli_split.specs.declared.split.SplitEnd.{SplitEnd}
use Rattle.cli_cut.specs.Cutting.{IsDenied, IsGiven, IsReason, IsRefusalStatus, SparesListing}
use Rattle.cli_cut.specs.Telling.{tally_line}
use Rattle.cli_cut.specs.declared.captures.Space.{Space}
use Rattle.cli_cut.specs.declared.outcome.Refusal.{Refusal}
use Rattle.cli_cut.specs.declared.outcome.Refusal.TheVariants as refusal

-- ---- The paths

-- the path of a listing, if there is one
abbrev pub listing_path : Option (Bor (List ℕ)) → List (Bor (List ℕ))
listing_path None = []
listing_path (Some path) = path ∷ []

-- why the captures at these paths can't be opened later
abbrev pub IsUnopened : Places → Option (List ℕ) → List (Bor (List ℕ)) → Refusal → Type 0
IsUnopened place denied paths (refusal.File path error) = Any (λ input. input.now ≡ path.now) paths × IsDenied place denied path.now error
IsUnopened place denied paths refusal.NoMemory = ⊤
IsUnopened place denied paths other = ⊥

-- there is the memory that a cut of this many captures needs once OUT is made
pub record HasSpace {R W : Type 0} (captures : ℕ) (space : Space R W) : Type 0 where
  pub room : HasRoom captures 1 space.room
  pub no_part : space.parts.items ≡ []
  pub part : 1 ≤ vec_capacity space.parts
  pub none_closed : length space.closed.items ≡ 0
  pub closed : 1 ≤ vec_capacity space.closed

-- ---- The command

-- the texts of the files at these paths; where there is no file, there are no bytes
abbrev pub texts_at : Places → Texts → List (Bor (List ℕ)) → List (List ℕ)
texts_at place text paths = map (λ path. text_at text (place path.now)) paths

-- The captures were read in the order of IN, up to the first fault, and OUT, the only part, has the cut of their packets by this program, as its
-- end says. It is begun once the header of the first capture is read.
pub record CutsPackets {R W : Type 0} (place : Places) (old new : Texts) (failed : Bool) (words : CutWords) (program : List Insn) (end : SplitEnd R W) : Type 0 where
  pub packets : List Packet
  pub reads : ReadsTexts failed (length packets) 0 (texts_at place old words.inputs.items) packets end.end
  pub part : PartEnd W
  pub alone : end.parts.items ≡ part ∷ []
  pub holds : HoldsPart (is_begun words.inputs.items end.end) old new failed (place words.output.now) program words.snap words.order words.«unit» packets part.tally part.written

-- The same by the program that is asked for. OUT is none of the files that are read.
pub record CutsAllInto {R W : Type 0} (place : Places) (old new : Texts) (failed : Bool) (words : CutWords) (end : SplitEnd R W) : Type 0 where
  pub program : List Insn
  pub given : IsGiven place old (option_copied words.listing) (option_copied words.expr) words.snap program
  pub apart : All (λ input. place input.now ≢ place words.output.now) words.inputs.items
  pub spares : SparesListing place words
  pub cuts : CutsPackets place old new failed words program end

-- the captures were cut, or nothing was done and the refusal says why
abbrev pub ComesToAll : {R W : Type 0} → Places → Texts → Texts → Bool → Option (List ℕ) → CutWords → Result (SplitEnd R W) Refusal → Type 0
ComesToAll place old new failed denied words (Ok end) = CutsAllInto place old new failed words end
ComesToAll place old new failed denied words (Err reason) =
    IsReason place old failed denied words words.inputs.items reason × ((p : List ℕ) → new p ≡ old p)

-- A call of `bpftap cut` of several captures: no file but OUT changed.
pub record CutsAll {R W : Type 0} (place : Places) (old new : Texts) (failed : Bool) (denied : Option (List ℕ)) (words : CutWords) (outcome : Result (SplitEnd R W) Refusal) : Type 0 where
  pub others : (p : List ℕ) → p ≢ place words.output.now → new p ≡ old p
  pub came_to : ComesToAll place old new failed denied words outcome

-- ---- What is reported

-- the captures and OUT of a cut, which are closed
abbrev pub Closed : Type 0
Closed = SplitEnd (Counted (FailureProbe (Unit {0}))) (Option Error)

-- the status of an outcome: that of its refusal, or the greater of those of OUT and of the reading
abbrev pub IsStatusOfAll : Result Closed Refusal → Status → Type 0
IsStatusOfAll (Ok end) ended = ended ≡ split_status end
IsStatusOfAll (Err reason) ended = IsRefusalStatus reason ended

-- of an OUT that was written whole
abbrev pub written_tally : Tally → Result (Unit {0}) Fault → Option Tally
written_tally tally (Ok done) = Some tally
written_tally tally (Err fault) = None

abbrev pub part_tally : {W : Type 0} → PartEnd W → Option Tally
part_tally part = written_tally part.tally part.written

-- of the OUT, where there is one
abbrev pub first_tally : {W : Type 0} → Option (PartEnd W) → Option Tally
first_tally None = None
first_tally (Some part) = part_tally part

-- where the header of the first capture was read
abbrev pub total_tally : {R W : Type 0} → SplitEnd R W → Option Tally
total_tally end = if passes_header end.end then first_tally (slice_get end.parts.items 0) else None

abbrev pub tally_told : LineForm → Option Tally → List ℕ
tally_told form None = []
tally_told form (Some tally) = tally_line form tally

abbrev pub total_told : {R W : Type 0} → LineForm → SplitEnd R W → List ℕ
total_told form end = tally_told form (total_tally end)

-- ---- The command

-- what is said of a path, if it is that of the only IN; or what is said of several IN
abbrev pub ByInputs : List (Bor (List ℕ)) → (Bor (List ℕ) → Type 0) → Type 0 → Type 0
ByInputs [] one several = several
ByInputs (path ∷ []) one several = one path
ByInputs (path ∷ next ∷ others) one several = several
