-- What `bpftap cut` and `bpftap check` report on standard error.
use Rattle.std.specs.Prelude.{◌≡◌, ◌≢◌, ◌⊎◌, ℕ, Bool, true, false, if◌then◌else◌, List, [], ◌∷◌, Option, Some, None, Result, Ok, Err}
use Rattle.std.specs.Borrow.{Bor}
use Rattle.std.specs.IoError.{error_kind}
use Rattle.std.specs.declared.io.Error.{Error}
use Rattle.std.specs.declared.io.ErrorKind.TheVariants.{BrokenPipe}
use Rattle.savefile.specs.declared.fault.Fault.TheVariants.{Device}
use Rattle.line_text.specs.declared.form.LineForm.{LineForm}
use Rattle.line_text.specs.declared.form.LineForm.TheVariants.{Text, Json}
use Rattle.fault_report.specs.Captures.{IsCaptureFault, IsOutputFault}
use Rattle.fault_report.specs.Reports.{IsDevice, IsNoMemory, Tells, TellsOne}
use Rattle.fault_report.specs.declared.report.Report.{Report}
use Rattle.fault_report.specs.declared.report.Subject.TheVariants.{StandardOutput}
use Rattle.cli_text.specs.declared.status.Status.TheVariants as status
use Rattle.cli_files.specs.Paths.{IsPathReport}
use Rattle.cli_files.specs.Reading.{IsFileReport, IsLongTextReport}
use Rattle.cli_filter.specs.Reports.{IsExpressionReport, IsFilterReport}
use Rattle.cli_args.specs.declared.cut.CutWords.{CutWords}
use Rattle.cli_store.specs.Files.{Places}
use Rattle.cli_split.specs.Reporting.{TellsFaults}
use Rattle.cli_split.specs.Statuses.{WentWell, split_status}
use Rattle.cli_split.specs.declared.plan.SplitLine.{SplitLine}
use Rattle.pcap_cut.specs.declared.cut.End.{End}
use Rattle.pcap_cut.specs.declared.cut.End.TheVariants.{Clean, Input, Output}
use Rattle.pcap_cut.specs.declared.cut.Tally.{Tally}
use Rattle.cli_cut.specs.Captures.{Closed, total_told}
use Rattle.cli_cut.specs.Checking.{Checked}
use Rattle.cli_cut.specs.Telling.{count_told}
use Rattle.cli_cut.specs.declared.outcome.CutReport.{CutReport}
use Rattle.cli_cut.specs.declared.outcome.CutOutcome.{CutOutcome}
use Rattle.cli_cut.specs.declared.outcome.CutOutcome.TheVariants.{Refused, Ended}
use Rattle.cli_cut.specs.declared.outcome.Refusal.{Refusal}
use Rattle.cli_cut.specs.declared.outcome.Refusal.TheVariants as refusal
use Rattle.cli_cut.specs.declared.print.PrintFault.{PrintFault}
use Rattle.cli_cut.specs.declared.print.PrintFault.TheVariants as print

-- why nothing was cut or printed
abbrev pub IsRefusalReport : Refusal → Report → Type 0
IsRefusalReport (refusal.Filter kept fault) report = IsFilterReport fault report
IsRefusalReport (refusal.TextTooLong path) report = IsLongTextReport report
IsRefusalReport (refusal.Paths fault) report = IsPathReport fault report
IsRefusalReport (refusal.File path error) report = IsFileReport error path report
IsRefusalReport refusal.NoMemory report = IsNoMemory report

-- nobody reads any more what goes to OUT
abbrev pub IsGone : Option Error → Type 0
IsGone None = ⊥
IsGone (Some error) = error_kind error ≡ BrokenPipe

-- the form of the count
abbrev pub form_of : CutWords → LineForm
form_of words = if words.json then Json else Text

module _ {E : Type 0} (hints failed : E → Bool) (contents : E → Option (List ℕ)) (form : E → LineForm) where
  -- nothing was reported, if no hints are wanted
  abbrev pub TellsNothing : E → E → Type 0
  TellsNothing old new = hints old ≡ false → new ≡ old

  -- this text was reported if it was asked for, else nothing
  abbrev pub TellsAsked : Bool → List ℕ → E → E → Type 0
  TellsAsked asked text old new = (asked ≡ true → Tells hints failed contents form old new text) × (asked ≡ false → TellsNothing old new)

  -- ---- One capture

  -- the fault that ended a cut from one path to another was reported, and nothing more; if there was none, nothing was
  abbrev pub TellsFault : Bor (List ℕ) → Bor (List ℕ) → End → E → E → Type 0
  TellsFault from to Clean old new = new ≡ old
  TellsFault from to (Input fault) old new = TellsOne hints failed contents form (IsCaptureFault fault from) old new
  TellsFault from to (Output fault) old new = TellsOne hints failed contents form (IsOutputFault fault to) old new

  -- that, and then the count of the packets, if it was asked for
  abbrev pub TellsEnd : Bor (List ℕ) → CutWords → End → Tally → E → E → Type 0
  TellsEnd from words end tally old new =
      (mid : E) × TellsFault from words.output end old mid × TellsAsked words.counted (count_told (form_of words) end tally) mid new

  -- OUT failed since nobody reads standard output any more, to which it leads: then nothing was reported
  abbrev pub IsUnread : Places → Option (List ℕ) → CutWords → CutReport → E → E → Type 0
  IsUnread place printed words report old new =
      (report.end ≡ Output Device) × IsGone report.unwritten × (printed ≡ Some (place words.output.now)) × (new ≡ old)

  -- Of a refusal exactly its reason was reported, and of a cut that was begun how it ended.
  abbrev pub TellsOutcome : Places → Option (List ℕ) → Bor (List ℕ) → CutWords → CutOutcome → E → E → Type 0
  TellsOutcome place printed from words (Refused reason) old new = TellsOne hints failed contents form (IsRefusalReport reason) old new
  TellsOutcome place printed from words (Ended report) old new =
      TellsEnd from words report.end report.tally old new ⊎ IsUnread place printed words report old new

  -- ---- Several captures

  -- That OUT was not written whole was reported, and then what ended the reading, as of a split by a line with this OUT; nothing if all went well.
  -- Then the count of the packets was, if it was asked for; and nothing more.
  abbrev pub TellsCut : CutWords → Closed → E → E → Type 0
  TellsCut words end old new = (mid : E) × (WentWell end → TellsNothing old mid)
      × ((line : SplitLine) × (line.output.now ≡ words.output.now) × TellsFaults hints failed contents form (line ∷ []) words.inputs.items end old mid)
      × TellsAsked words.counted (total_told (form_of words) end) mid new

  -- Of a refusal exactly its reason was reported, and of a cut how it ended, unless the status is Failed.
  abbrev pub TellsClosed : CutWords → Result Closed Refusal → E → E → Type 0
  TellsClosed words (Err reason) old new = TellsOne hints failed contents form (IsRefusalReport reason) old new
  TellsClosed words (Ok end) old new = (split_status end ≡ status.Failed → ⊥) → TellsCut words end old new

  -- ---- Printing

  -- that standard output failed was reported; or nothing, if nobody reads it any more
  abbrev pub TellsUnwritten : Error → E → E → Type 0
  TellsUnwritten error old new = (error_kind error ≡ BrokenPipe → TellsNothing old new)
      × (error_kind error ≢ BrokenPipe → TellsOne hints failed contents form (IsDevice StandardOutput) old new)

  -- why a program was not printed was reported, and nothing more; if it was printed, nothing was
  abbrev pub TellsPrint : Result (Unit {0}) PrintFault → E → E → Type 0
  TellsPrint (Ok done) old new = TellsNothing old new
  TellsPrint (Err (print.Output error)) old new = TellsUnwritten error old new
  TellsPrint (Err print.NoMemory) old new = TellsOne hints failed contents form IsNoMemory old new
  TellsPrint (Err (print.Expression fault)) old new = TellsOne hints failed contents form (IsExpressionReport fault) old new

  -- of a call of `check`
  abbrev pub TellsChecked : Checked → E → E → Type 0
  TellsChecked (Ok done) old new = TellsPrint done old new
  TellsChecked (Err reason) old new = TellsOne hints failed contents form (IsRefusalReport reason) old new
