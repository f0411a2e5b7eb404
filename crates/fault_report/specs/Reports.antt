-- A fault that is reported, as a line of text and as an object of JSON.
use Rattle.std.specs.Prelude.{◌≡◌, ℕ, Bool, true, false, List, [], ◌++◌, Option, Some, None, codes}
use Rattle.std.specs.Io.KnownBytes.{Appends}
use Rattle.line_text.specs.Strings.{json_string}
use Rattle.line_text.specs.Texts.{end_of_line}
use Rattle.cli_text.specs.Paths.{escaped_path}
use Rattle.line_text.specs.declared.form.LineForm.{LineForm}
use Rattle.line_text.specs.declared.form.LineForm.TheVariants.{Text, Json}
use Rattle.fault_report.specs.Words.{words_text, further_names, numbers_text, one_word, place_word}
use Rattle.fault_report.specs.declared.word.Word.TheVariants.{Nothing}
use Rattle.fault_report.specs.declared.report.Report.{Report}
use Rattle.fault_report.specs.declared.report.Subject.{Subject}
use Rattle.fault_report.specs.declared.report.Subject.TheVariants.{File, Capture, Argument, StandardOutput}

-- the names and numbers of a fault, and what failed as the line names it
abbrev pub in_line : List ℕ → List ℕ → Option Subject → List ℕ
in_line name words None = name ++ words
in_line name words (Some (Capture path)) = name ++ words
in_line name words (Some (Argument argument)) = name ++ words
in_line name words (Some StandardOutput) = name ++ words ++ codes " standard output"
in_line name words (Some (File path)) = name ++ words ++ codes " " ++ escaped_path path.now

abbrev pub report_text : Report → List ℕ
report_text report = in_line report.name.now (words_text report.words) report.subject

-- what failed, as a member of an object: a path is the string of its bytes, and a stream is no file
abbrev pub subject_member : Option Subject → List ℕ
subject_member None = []
subject_member (Some (File path)) = codes ",\"file\":" ++ json_string path.now
subject_member (Some (Capture path)) = codes ",\"file\":" ++ json_string path.now
subject_member (Some (Argument name)) = codes ",\"argument\":\"" ++ name.now ++ codes "\""
subject_member (Some StandardOutput) = codes ",\"stream\":\"standard output\""

-- the names of a fault, with a blank between, as a member
abbrev pub names_member : Report → List ℕ
names_member report = codes "\"fault\":\"" ++ report.name.now ++ further_names report.words ++ codes "\""

-- its numbers
abbrev pub numbers_member : Report → List ℕ
numbers_member report = codes "\"numbers\":[" ++ numbers_text report.words ++ codes "]"

-- `{"fault":"NAMES","numbers":[N,N],"file":PATH}`
abbrev pub report_object : Report → List ℕ
report_object report = codes "{" ++ names_member report ++ codes "," ++ numbers_member report ++ subject_member report.subject ++ codes "}"

-- what is reported in a form, without the end of its line
abbrev pub reported_text : LineForm → Report → List ℕ
reported_text Text report = codes "bpftap: " ++ report_text report
reported_text Json report = report_object report

-- the line or the object that is reported
abbrev pub reported : LineForm → Report → List ℕ
reported form report = reported_text form report ++ end_of_line

-- what is printed has a path in it, of any length
abbrev pub has_path : LineForm → Option Subject → Bool
has_path form (Some (File path)) = true
has_path Json (Some (Capture path)) = true
has_path form other = false

-- ---- What standard error took

-- Between two states of standard error this was reported. If no hints are wanted it took that and nothing else, unless it failed; the form stays.
abbrev pub Tells : {E : Type 0} → (E → Bool) → (E → Bool) → (E → Option (List ℕ)) → (E → LineForm) → E → E → List ℕ → Type 0
Tells hints failed contents form old new text =
    hints old ≡ false → (hints new ≡ false) × (form new ≡ form old) × (failed new ≡ false → (failed old ≡ false) × Appends (contents old) (contents new) text)

-- a report of this name without a place, of this subject
abbrev pub IsNamed : List ℕ → Option Subject → Report → Type 0
IsNamed name subject report = (report.name.now ≡ name) × (report.words ≡ one_word Nothing) × (report.subject ≡ subject)

-- the same with a place
abbrev pub IsPlaced : List ℕ → Option ℕ → Option Subject → Report → Type 0
IsPlaced name place subject report = (report.name.now ≡ name) × (report.words ≡ one_word (place_word place)) × (report.subject ≡ subject)

-- memory was refused
abbrev pub IsNoMemory : Report → Type 0
IsNoMemory report = IsNamed (codes "NoMemory") None report

-- a file or a stream failed
abbrev pub IsDevice : Subject → Report → Type 0
IsDevice subject report = IsNamed (codes "Device") (Some subject) report

-- a fault was reported of which this is said
abbrev pub TellsOne : {E : Type 0} → (E → Bool) → (E → Bool) → (E → Option (List ℕ)) → (E → LineForm) → (Report → Type 0) → E → E → Type 0
TellsOne hints failed contents form says old new =
    (report : Report) × says report × Tells hints failed contents form old new (reported (form old) report)

-- unless standard error failed, it took something that no clause names; or nothing
abbrev pub TellsMore : {E : Type 0} → (E → Bool) → (E → Bool) → (E → Option (List ℕ)) → (E → LineForm) → E → E → Type 0
TellsMore hints failed contents form old new =
    hints old ≡ false → (hints new ≡ false) × (form new ≡ form old) × (failed new ≡ false → (failed old ≡ false) × (more : List ℕ) × Appends (contents old) (contents new) more)

-- a fault was reported of which this is said, and perhaps more before it and after it
abbrev pub TellsAmong : {E : Type 0} → (E → Bool) → (E → Bool) → (E → Option (List ℕ)) → (E → LineForm) → (Report → Type 0) → E → E → Type 0
TellsAmong hints failed contents form says old new =
    (report : Report) × says report × (hints old ≡ false → (hints new ≡ false) × (form new ≡ form old)
    × (failed new ≡ false → (failed old ≡ false) × (before : List ℕ) × (more : List ℕ) × Appends (contents old) (contents new) (before ++ reported (form old) report ++ more)))
