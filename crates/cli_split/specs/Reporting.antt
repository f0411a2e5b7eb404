-- What a split reports on standard error.
use Rattle.std.specs.Prelude.{◌≡◌, ◌≢◌, ℕ, suc, Bool, false, List, [], ◌∷◌, Option, Result, Ok, Err, codes, slice_get}
use Rattle.std.specs.Borrow.{Bor}
use Rattle.std.specs.IoError.{error_kind}
use Rattle.std.specs.declared.io.Error.{Error}
use Rattle.std.specs.declared.io.ErrorKind.TheVariants.{BrokenPipe}
use Rattle.savefile.specs.declared.fault.Fault.{Fault}
use Rattle.line_text.specs.declared.form.LineForm.{LineForm}
use Rattle.fault_report.specs.Captures.{IsNthCaptureFault, IsOutputFault}
use Rattle.fault_report.specs.Reports.{IsDevice, IsNoMemory, TellsOne}
use Rattle.fault_report.specs.declared.report.Report.{Report}
use Rattle.fault_report.specs.declared.report.Subject.TheVariants.{StandardOutput}
use Rattle.cli_files.specs.Paths.{IsPathReport}
use Rattle.cli_files.specs.Reading.{IsFileReport, IsLongTextReport}
use Rattle.cli_filter.specs.Reports.{IsPlanReport}
use Rattle.cli_args.specs.declared.split.SplitWords.{SplitWords}
use Rattle.cli_split.specs.declared.outcome.Refusal.{Refusal}
use Rattle.cli_split.specs.declared.outcome.Refusal.TheVariants as refusal
use Rattle.cli_split.specs.declared.outcome.SplitOutcome.{SplitOutcome}
use Rattle.cli_split.specs.declared.outcome.SplitOutcome.TheVariants.{Refused, Ended}
use Rattle.cli_split.specs.declared.part.PartEnd.{PartEnd}
use Rattle.cli_split.specs.declared.plan.SplitLine.{SplitLine}
use Rattle.cli_split.specs.declared.split.SplitEnd.{SplitEnd}
use Rattle.cli_split.specs.declared.split.Stop.{Stop}
use Rattle.cli_split.specs.declared.split.Stop.TheVariants.{AtHeader, AtRecord}
use Rattle.cli_split.specs.Printed.{output_of}

-- why nothing was split
abbrev pub IsRefusalReport : Refusal → Report → Type 0
IsRefusalReport (refusal.Lines text fault) report = IsPlanReport (codes "Lines") fault report
IsRefusalReport (refusal.TextTooLong path) report = IsLongTextReport report
IsRefusalReport (refusal.Paths fault) report = IsPathReport fault report
IsRefusalReport (refusal.File path error) report = IsFileReport error path report
IsRefusalReport refusal.NoMemory report = IsNoMemory report

-- what ended the reading of the captures at these paths
abbrev pub IsStopReport : List (Bor (List ℕ)) → Stop → Report → Type 0
IsStopReport paths (AtHeader n fault) report = IsNthCaptureFault fault n paths report
IsStopReport paths (AtRecord n fault) report = IsNthCaptureFault fault n paths report

-- why the capture at a path was not written whole
abbrev pub IsPartReport : List ℕ → Fault → Report → Type 0
IsPartReport output fault report = (path : Bor (List ℕ)) × (path.now ≡ output) × IsOutputFault fault path report

module _ {E : Type 0} (hints failed : E → Bool) (contents : E → Option (List ℕ)) (form : E → LineForm) where
  -- that standard output failed was reported, if it did; or nothing, if nobody reads it any more
  abbrev pub TellsPrinted : Result (Unit {0}) Error → E → E → Type 0
  TellsPrinted (Ok done) old new = new ≡ old
  TellsPrinted (Err error) old new = (error_kind error ≡ BrokenPipe → new ≡ old)
      × (error_kind error ≢ BrokenPipe → TellsOne hints failed contents form (IsDevice StandardOutput) old new)

  -- why a part with this OUT was not written whole was reported, if it was not, and nothing more
  abbrev pub TellsPart : List ℕ → Result (Unit {0}) Fault → E → E → Type 0
  TellsPart output (Ok done) old new = new ≡ old
  TellsPart output (Err fault) old new = TellsOne hints failed contents form (IsPartReport output fault) old new

  -- that of each part, in order: the first of these is that of the n-th line
  abbrev pub TellsParts : {W : Type 0} → List SplitLine → ℕ → List (PartEnd W) → E → E → Type 0
  TellsParts lines n [] old new = new ≡ old
  TellsParts lines n (part ∷ parts) old new =
      (mid : E) × TellsPart (output_of (slice_get lines n)) part.written old mid × TellsParts lines (suc n) parts mid new

  -- what ended the reading was reported, if something did, and nothing more
  abbrev pub TellsRead : List (Bor (List ℕ)) → Result (Unit {0}) Stop → E → E → Type 0
  TellsRead paths (Ok done) old new = hints old ≡ false → new ≡ old
  TellsRead paths (Err stop) old new = TellsOne hints failed contents form (IsStopReport paths stop) old new

  -- each part that was not written whole, and then what ended the reading
  abbrev pub TellsFaults : {R W : Type 0} → List SplitLine → List (Bor (List ℕ)) → SplitEnd R W → E → E → Type 0
  TellsFaults lines paths end old new = (mid : E) × TellsParts lines 0 end.parts.items old mid × TellsRead paths end.end mid new

  -- and before them what comes of printing
  abbrev pub TellsEnded : {R W : Type 0} → List SplitLine → List (Bor (List ℕ)) → SplitEnd R W → E → E → Type 0
  TellsEnded lines paths end old new =
      (printed : Result (Unit {0}) Error) × (mid : E) × TellsPrinted printed old mid × TellsFaults lines paths end mid new

  -- why nothing was split was reported, or how the split ended; and nothing more
  abbrev pub TellsOutcome : SplitWords → SplitOutcome → E → E → Type 0
  TellsOutcome words (Refused reason) old new = TellsOne hints failed contents form (IsRefusalReport reason) old new
  TellsOutcome words (Ended report) old new = TellsEnded report.lines.items words.inputs.items report.end old new
