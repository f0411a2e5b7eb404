-- `bpftap steps`, from files to printed lines. Read it from the last definition up.
use Rattle.std.specs.Prelude.{◌≡◌, ◌≢◌, ◌⊎◌, ℕ, ◌<◌, length, Bool, true, false, List, [], ◌∷◌, Option, Some, None, Result, Ok, Err, All, IfErr, IfOk, Vec, map, option_copied, ⊤}
use Rattle.std.specs.List.{AllZip, Any}
use Rattle.std.specs.Borrow.{Bor}
use Rattle.std.specs.Io.KnownBytes.{Keeps as KeepsBytes}
use Rattle.std.specs.declared.alloc.Global.{Global}
use Rattle.std.specs.declared.io.Error.{Error}
use Rattle.tap.specs.declared.fault.Fault.{Fault}
use Rattle.tap_steps.specs.declared.filters.Spec.{Spec}
use Rattle.tap_steps.specs.declared.step.Step.{Step}
use Rattle.tap_steps.specs.declared.playlist.TheConstants.{MAX_CAPTURES}
use Rattle.line_text.specs.declared.form.LineForm.{LineForm}
use Rattle.line_text.specs.declared.form.LineForm.TheVariants as form
use Rattle.line_text.specs.Files.{IsFileOf}
use Rattle.tap_text.specs.Listeners.{AreFirstOf, IsListenerLine}
use Rattle.tap_text.specs.Script.{IsStepLine}
use Rattle.tap_text.specs.Plans.{IsRefusedFiles}
use Rattle.cli_text.specs.declared.status.Status.{Status}
use Rattle.cli_text.specs.declared.status.Status.TheVariants as status
use Rattle.cli_text.specs.Status.{greater}
use Rattle.cli_files.specs.Paths.{IsPathStatus}
use Rattle.cli_files.specs.Reading.{IsRefusedMemory}
use Rattle.cli_files.specs.declared.reading.TheConstants.{MAX_TEXT}
use Rattle.cli_files.specs.declared.paths.Opening.TheVariants.{First}
use Rattle.cli_store.specs.Files.{IsApart, IsCaptureRead, IsRefusal, IsUnprinted, Places, StoresAt, Texts}
use Rattle.cli_args.specs.declared.steps.StepsWords.{StepsWords}
use Rattle.cli_steps.specs.Playing.{is_traced}
use Rattle.cli_steps.specs.Telling.{PrintsPlayed}
use Rattle.cli_steps.specs.declared.outcome.PictureFault.{PictureFault}
use Rattle.cli_steps.specs.declared.outcome.PictureFault.TheVariants as picture
use Rattle.cli_steps.specs.declared.outcome.StepsInput.{StepsInput}
use Rattle.cli_steps.specs.declared.outcome.StepsRefusal.{StepsRefusal}
use Rattle.cli_steps.specs.declared.outcome.StepsRefusal.TheVariants as refusal
use Rattle.cli_steps.specs.declared.outcome.StepsReport.{StepsReport}
use Rattle.cli_steps.specs.declared.steps.Replayed.{Replayed}
use Rattle.cli_steps.specs.declared.steps.Detail.{Detail}
use Rattle.cli_steps.specs.declared.steps.Detail.TheVariants as detail

-- ---- What the words ask for

-- with `--json` JSON Lines, and else text
abbrev pub form_for : Bool → LineForm
form_for true = form.Json
form_for false = form.Text

-- with `-v` the answers are printed before the reports, and with `-p` the trace is kept for the picture
abbrev pub detail_for : Bool → Option (List ℕ) → Detail
detail_for true picture = detail.Answers
detail_for false (Some picture) = detail.Trace
detail_for false None = detail.Reports

-- the paths that are read: LISTENERS, SCRIPT and the INs
abbrev pub read_paths : StepsWords → List (Bor (List ℕ))
read_paths words = words.listeners ∷ words.script ∷ words.inputs.items

-- the path of the picture, if one is asked for
abbrev pub drawn_paths : Option (Bor (List ℕ)) → List (Bor (List ℕ))
drawn_paths None = []
drawn_paths (Some path) = path ∷ []

-- ---- The texts of the files

-- the file at a path has this text
abbrev pub IsTextAt : Places → Texts → List ℕ → List ℕ → Type 0
IsTextAt place text path whole = text (place path) ≡ Some whole

-- the files at these paths have these texts, in order
abbrev pub AreTextsAt : Places → Texts → List (Bor (List ℕ)) → List (List ℕ) → Type 0
AreTextsAt place text paths wholes = map (λ path. text (place path.now)) paths ≡ map Some wholes

-- this was read of the captures at these paths, in order
abbrev pub AreCapturesRead : Places → Texts → List (Bor (List ℕ)) → List (List ℕ) → Type 0
AreCapturesRead place text paths captures = (wholes : List (List ℕ)) × AreTextsAt place text paths wholes × AllZip IsCaptureRead wholes captures

-- No file that is read is the picture's, and standard output goes to none of these files.
abbrev pub ArePathsApart : Places → Texts → Option (List ℕ) → StepsWords → Type 0
ArePathsApart place text printed words =
    All (λ drawn. All (λ path. IsApart First place text drawn.now path.now) (read_paths words)) (drawn_paths words.picture)
    × All (λ path. IsUnprinted First place text printed path.now) (read_paths words)
    × All (λ drawn. printed ≢ Some (place drawn.now)) (drawn_paths words.picture)

-- ---- Why nothing was played

-- a file could not be read or written: memory was refused, or it failed
abbrev pub IsFailure : Bool → Error → Type 0
IsFailure failed error = IsRefusedMemory error ⊎ (failed ≡ true)

-- the file at a path could not be read: memory was refused, or this file failed
abbrev pub IsDenied : Places → Bool → Option (List ℕ) → List ℕ → Error → Type 0
IsDenied place failed denied path error = IsFailure failed error × (IsRefusedMemory error ⊎ (denied ≡ Some (place path)))

-- why the text of LISTENERS or SCRIPT, which is at this path, was not read
abbrev pub IsUnread : Places → Texts → Bool → Option (List ℕ) → List ℕ → StepsRefusal → Type 0
IsUnread place text failed denied path (refusal.TextTooLong long) =
    (long.now ≡ path) × ((whole : List ℕ) × IsTextAt place text path whole × (MAX_TEXT < length whole))
IsUnread place text failed denied path (refusal.File unread error) = (unread.now ≡ path) × IsDenied place failed denied path error
IsUnread place text failed denied path other = ⊥

-- why the capture at this path was not read
abbrev pub IsCaptureUnread : Places → Bool → Option (List ℕ) → List ℕ → StepsRefusal → Type 0
IsCaptureUnread place failed denied path (refusal.File unread error) = (unread.now ≡ path) × IsDenied place failed denied path error
IsCaptureUnread place failed denied path other = ⊥

-- why a capture at one of these paths was not read
abbrev pub AreUnread : Places → Bool → Option (List ℕ) → List (Bor (List ℕ)) → StepsRefusal → Type 0
AreUnread place failed denied paths refusal.NoMemory = ⊤
AreUnread place failed denied paths (refusal.File unread error) = Any (λ path. path.now ≡ unread.now) paths × IsDenied place failed denied unread.now error
AreUnread place failed denied paths other = ⊥

-- why the paths are refused
abbrev pub ArePathsRefused : Places → Option (List ℕ) → Bool → StepsWords → StepsRefusal → Type 0
ArePathsRefused place printed failed words refusal.NoMemory = ⊤
ArePathsRefused place printed failed words refusal.TooMany = MAX_CAPTURES < length words.inputs.items
ArePathsRefused place printed failed words (refusal.Paths fault) = IsRefusal place printed failed true (read_paths words) (drawn_paths words.picture) fault
ArePathsRefused place printed failed words other = ⊥

-- why the lines of LISTENERS and SCRIPT are refused
abbrev pub AreLinesRefused : Places → Texts → StepsWords → StepsRefusal → Type 0
AreLinesRefused place text words (refusal.Line listeners script fault) =
    IsTextAt place text words.listeners.now listeners.items × IsTextAt place text words.script.now script.items × IsRefusedFiles listeners.items script.items fault
AreLinesRefused place text words other = ⊥

-- Why nothing was played: a text is too long, a line is refused, there are too many captures, paths
-- are refused, a file, which is named, could not be read, or memory was refused.
abbrev pub IsReason : Places → Texts → Option (List ℕ) → Bool → Option (List ℕ) → StepsWords → StepsRefusal → Type 0
IsReason place text printed failed denied words (refusal.TextTooLong long) =
    ((long.now ≡ words.listeners.now) ⊎ (long.now ≡ words.script.now)) × ((whole : List ℕ) × IsTextAt place text long.now whole × (MAX_TEXT < length whole))
IsReason place text printed failed denied words (refusal.Line listeners script fault) = AreLinesRefused place text words (refusal.Line listeners script fault)
IsReason place text printed failed denied words refusal.TooMany = MAX_CAPTURES < length words.inputs.items
IsReason place text printed failed denied words (refusal.Paths fault) = IsRefusal place printed failed true (read_paths words) (drawn_paths words.picture) fault
IsReason place text printed failed denied words (refusal.File unread error) = Any (λ path. path.now ≡ unread.now) (read_paths words) × IsDenied place failed denied unread.now error
IsReason place text printed failed denied words refusal.NoMemory = ⊤

-- ---- What was read

-- What was read is what the files have: the texts of LISTENERS, SCRIPT and the INs, of an IN whose header is refused its first 24 bytes,
-- and the listeners and steps that these say. Of more than 64 listeners the first 65 are kept, since a replay takes no more.
pub record IsInput (place : Places) (text : Texts) (printed : Option (List ℕ)) (words : StepsWords) (input : StepsInput) : Type 0 where
  pub has_listeners : IsTextAt place text words.listeners.now input.listeners.items
  pub has_script : IsTextAt place text words.script.now input.script.items
  pub has_captures : AreCapturesRead place text words.inputs.items (map (λ c. c.items) input.captures.items)
  pub of_listeners : AreFirstOf input.listeners.items input.plan.specs.items
  pub of_script : IsFileOf IsStepLine input.script.items input.plan.steps.items
  pub apart : ArePathsApart place text printed words

-- ---- The picture

-- a place that is not the picture's
abbrev pub IsNotDrawn : Places → Option (Bor (List ℕ)) → List ℕ → Type 0
IsNotDrawn place None at = ⊤
IsNotDrawn place (Some path) at = at ≢ place path.now

-- the trace that a picture is drawn of was handed on
abbrev pub HasTrace : Option (Bor (List ℕ)) → Result Replayed Fault → Type 0
HasTrace (Some path) (Ok replayed) = replayed.trace ≢ None
HasTrace picture other = ⊤

-- The picture that was asked for was drawn of a replay, and is stored: its file was made of these bytes. Where none was asked for, or
-- there was no replay, none was drawn.
abbrev pub IsDrawn : Places → Texts → Texts → Option (Bor (List ℕ)) → Result Replayed Fault → Option (Vec ℕ Global) → Type 0
IsDrawn place old new None replayed drawn = drawn ≡ None
IsDrawn place old new (Some path) (Err fault) drawn = drawn ≡ None
IsDrawn place old new (Some path) (Ok replayed) drawn = (bytes : Vec ℕ Global) × (drawn ≡ Some bytes) × StoresAt old new (place path.now) bytes.items

-- why the picture that is asked for was not drawn whole: memory was refused, or its file failed
abbrev pub IsUndrawn : Option (Bor (List ℕ)) → Bool → PictureFault → Type 0
IsUndrawn None failed fault = ⊥
IsUndrawn (Some path) failed picture.NoMemory = ⊤
IsUndrawn (Some path) failed (picture.File None) = failed ≡ true
IsUndrawn (Some path) failed (picture.File (Some error)) = IsFailure failed error

-- ---- The command

-- The files of the words say listeners, steps and captures. The steps were played to the listeners over the captures, and `PrintsPlayed`
-- says what was printed: with `-v` the answers and then the reports, and else the reports, in the form that is asked for. A picture that
-- was drawn is stored. Where there was no replay, no file changed.
pub record PlaysFiles (place : Places) (old new : Texts) (printed : Option (List ℕ)) (failed : Bool) (words : StepsWords) (before after : Option (List ℕ)) (report : StepsReport) : Type 0 where
  pub listeners : List ℕ
  pub script : List ℕ
  pub captures : List (List ℕ)
  pub has_listeners : IsTextAt place old words.listeners.now listeners
  pub has_script : IsTextAt place old words.script.now script
  pub has_captures : AreTextsAt place old words.inputs.items captures
  pub apart : ArePathsApart place old printed words
  pub specs : List Spec
  pub steps : List Step
  pub of_listeners : IsFileOf IsListenerLine listeners specs
  pub of_script : IsFileOf IsStepLine script steps
  pub plays : PrintsPlayed (form_for words.json) words.explained (is_traced (detail_for words.explained (option_copied words.picture))) captures specs steps before after report.status report.replayed
  pub unplayed : IfErr report.replayed (λ fault. (at : List ℕ) → new at ≡ old at)
  pub drawn : IfOk report.drawn (IsDrawn place old new words.picture report.replayed)
  pub undrawn : IfErr report.drawn (IsUndrawn words.picture failed)

-- nothing was played, and the refusal says why: then no file changed, and nothing was printed; or the script was played
abbrev pub ComesTo : Places → Texts → Texts → Option (List ℕ) → Bool → Option (List ℕ) → StepsWords → Option (List ℕ) → Option (List ℕ) → Result StepsReport StepsRefusal → Type 0
ComesTo place old new printed failed denied words before after (Ok report) = PlaysFiles place old new printed failed words before after report
ComesTo place old new printed failed denied words before after (Err reason) =
    IsReason place old printed failed denied words reason × ((at : List ℕ) → new at ≡ old at) × KeepsBytes before after

-- A call of `bpftap steps`: no file but the picture changed. Standard output had `before`, and has `after`.
pub record StepsFiles (place : Places) (old new : Texts) (printed : Option (List ℕ)) (failed : Bool) (denied : Option (List ℕ)) (words : StepsWords) (before after : Option (List ℕ)) (result : Result StepsReport StepsRefusal) : Type 0 where
  pub others : (at : List ℕ) → IsNotDrawn place words.picture at → new at ≡ old at
  pub came_to : ComesTo place old new printed failed denied words before after result

-- ---- The exit status

-- of a file that could not be read or written
abbrev pub IsFileStatus : Error → Status → Type 0
IsFileStatus error ended = (IsRefusedMemory error → ended ≡ status.Refused) × ((IsRefusedMemory error → ⊥) → ended ≡ status.Failed)

-- of a picture
abbrev pub IsDrawnStatus : {A : Type 0} → Result A PictureFault → Status → Type 0
IsDrawnStatus (Ok drawn) ended = ended ≡ status.Clean
IsDrawnStatus (Err picture.NoMemory) ended = ended ≡ status.Refused
IsDrawnStatus (Err (picture.File None)) ended = ended ≡ status.Failed
IsDrawnStatus (Err (picture.File (Some error))) ended = IsFileStatus error ended

-- of a refusal
abbrev pub IsRefusalStatus : StepsRefusal → Status → Type 0
IsRefusalStatus (refusal.Paths fault) ended = IsPathStatus fault ended
IsRefusalStatus (refusal.File path error) ended = IsFileStatus error ended
IsRefusalStatus other ended = ended ≡ status.Refused

-- The greater of the status of what was played and printed and of the picture's.
abbrev pub IsStatusOf : Result StepsReport StepsRefusal → Status → Type 0
IsStatusOf (Ok report) ended = (drawn : Status) × IsDrawnStatus report.drawn drawn × (ended ≡ greater report.status drawn)
IsStatusOf (Err reason) ended = IsRefusalStatus reason ended
