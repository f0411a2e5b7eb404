-- Steps that are played to listeners over captures.
use Rattle.std.specs.Prelude.{◌≡◌, ◌==◌, ◌⊎◌, ℕ, List, Option, Some, None, map, if◌then◌else◌}
use Rattle.savefile.specs.declared.fault.Fault.{Fault as RecordFault}
use Rattle.tap_steps.specs.declared.answer.Answered.{Answered}
use Rattle.tap_steps.specs.declared.filters.Spec.{Spec}
use Rattle.tap_steps.specs.declared.step.Step.{Step}
use Rattle.tap_steps.specs.declared.playlist.PlacedPacket.{PlacedPacket}
use Rattle.tap_steps.specs.declared.report.Report.{Report}
use Rattle.tap.specs.Answers.{Traces}
use Rattle.tap.specs.Headline.{Replays}
use Rattle.tap.specs.Refusals.{IsFirst, NoneStands}
use Rattle.line_text.specs.declared.form.LineForm.{LineForm}
use Rattle.line_text.specs.Files.{IsFileOf}
use Rattle.tap_text.specs.Answers.{ArePrintedAnswers}
use Rattle.tap_text.specs.Listeners.{IsListenerLine}
use Rattle.tap_text.specs.Script.{IsStepLine}
use Rattle.tap_text.specs.Plans.{IsRefusedFiles}
use Rattle.tap_text.specs.Printed.{reports_in}
use Rattle.bpftap_c.specs.declared.outcome.BpftapResult.{BpftapResult}
use Rattle.bpftap_c.specs.declared.outcome.Failure.{Failure}
use Rattle.bpftap_c.specs.declared.outcome.Failure.TheVariants.{NoMemory, Lines, Replay}
use Rattle.bpftap_c.specs.declared.steps.BpftapCapture.{BpftapCapture}
use Rattle.bpftap_c.specs.declared.steps.BpftapReplay.{BpftapReplay}
use Rattle.bpftap_c.specs.Memory.{PutsText}
use Rattle.bpftap_c.specs.Outcome.{capture_code, capture_place, code_of, number_of, place_of, size_of}

-- the bytes of each capture
abbrev pub texts_of : List BpftapCapture → List (List ℕ)
texts_of captures = map (λ c. c.bytes.now) captures

-- The two texts say listeners and steps. Their replay gave these reports, and no fault applies.
pub record IsPlayed (listeners script : List ℕ) (captures : List (List ℕ)) (reports : List Report) (record_fault : Option (ℕ × RecordFault)) : Type 0 where
  pub specs : List Spec
  pub steps : List Step
  pub of_listeners : IsFileOf IsListenerLine listeners specs
  pub of_script : IsFileOf IsStepLine script steps
  pub playlist : List PlacedPacket
  pub replays : Replays captures specs steps playlist record_fault reports
  pub none_stands : NoneStands captures specs steps

-- the reports in this form
abbrev pub IsReported : LineForm → List ℕ → List ℕ → List (List ℕ) → List ℕ → Option (ℕ × RecordFault) → Type 0
IsReported form listeners script captures text record_fault =
    (reports : List Report) × IsPlayed listeners script captures reports record_fault × (text ≡ reports_in form reports)

-- the answers of each listener to its own steps in this form, the steps being played
abbrev pub IsAnswered : LineForm → List ℕ → List ℕ → List (List ℕ) → List ℕ → Option (ℕ × RecordFault) → Type 0
IsAnswered form listeners script captures text record_fault =
    (reports : List Report) × (played : IsPlayed listeners script captures reports record_fault) × (answers : List (List Answered))
    × Traces captures played.specs played.steps played.playlist record_fault answers
    × ArePrintedAnswers form played.specs played.steps played.playlist answers text

-- some text, the steps being played
abbrev pub IsDrawn : List ℕ → List ℕ → List (List ℕ) → Option (ℕ × RecordFault) → Type 0
IsDrawn listeners script captures record_fault = (reports : List Report) × IsPlayed listeners script captures reports record_fault

-- Why there are no reports: the first bad line, the first fault of the replay that applies, or out of memory.
abbrev pub IsUnplayed : List ℕ → List ℕ → List (List ℕ) → Failure → Type 0
IsUnplayed listeners script captures (Lines fault) = IsRefusedFiles listeners script fault
IsUnplayed listeners script captures (Replay fault) =
    (specs : List Spec) × (steps : List Step)
    × IsFileOf IsListenerLine listeners specs × IsFileOf IsStepLine script steps × IsFirst captures specs steps fault
IsUnplayed listeners script captures NoMemory = Unit {0}
IsUnplayed listeners script captures other = ⊥

-- What a call returns that put the text: the record fault that a capture ended with, if the text found room, and else what `put` says.
abbrev pub replay_of : BpftapResult → Option (ℕ × RecordFault) → BpftapReplay
replay_of put None = record { fault = put.fault; number = 0; size = put.size; place = put.place }
replay_of put (Some f) =
    if put.fault == 0 then record { fault = capture_code f.1; number = f.0; size = put.size; place = capture_place f.1 }
    else record { fault = put.fault; number = 0; size = put.size; place = put.place }

-- what a call returns if there are no reports
abbrev pub no_replay : Failure → BpftapReplay
no_replay failure = record { fault = code_of failure; number = number_of failure; size = size_of failure; place = place_of failure }

-- A text that shows the steps being played is put. Or they are not played, and all is as it was.
abbrev pub PutsPlayed : (List ℕ → Option (ℕ × RecordFault) → Type 0) → (Failure → Type 0) → List ℕ → List ℕ → BpftapReplay → Type 0
PutsPlayed Shows IsRefused old new told =
    ((text : List ℕ) × (record_fault : Option (ℕ × RecordFault)) × (put : BpftapResult) × Shows text record_fault
    × PutsText text old new put × (told ≡ replay_of put record_fault))
    ⊎ ((failure : Failure) × IsRefused failure × (told ≡ no_replay failure) × (new ≡ old))

-- some text
abbrev pub PutsPicture : List ℕ → List ℕ → List (List ℕ) → List ℕ → List ℕ → BpftapReplay → Type 0
PutsPicture listeners script captures old new told =
    PutsPlayed (λ text record_fault. IsDrawn listeners script captures record_fault) (IsUnplayed listeners script captures) old new told

-- the answers in this form
abbrev pub PutsAnswers : LineForm → List ℕ → List ℕ → List (List ℕ) → List ℕ → List ℕ → BpftapReplay → Type 0
PutsAnswers form listeners script captures old new told =
    PutsPlayed (IsAnswered form listeners script captures) (IsUnplayed listeners script captures) old new told

-- the reports in this form
abbrev pub PutsReports : LineForm → List ℕ → List ℕ → List (List ℕ) → List ℕ → List ℕ → BpftapReplay → Type 0
PutsReports form listeners script captures old new told =
    PutsPlayed (IsReported form listeners script captures) (IsUnplayed listeners script captures) old new told
