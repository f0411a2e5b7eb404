-- Several captures that are read in order, up to the first fault.
use Rattle.std.specs.Prelude.{ℕ, List, Option}
use Rattle.cli_answers.specs.declared.counts.VerdictCounts.{VerdictCounts}
use Rattle.cli_answers.specs.declared.filter.AskedFilter.{AskedFilter}
use Rattle.cli_answers.specs.declared.form.PacketForm.{PacketForm}
use Rattle.cli_answers.specs.declared.lines.Printed.{Printed}
use Rattle.cli_answers.specs.declared.lines.PrintedCaptures.{PrintedCaptures}
use Rattle.cli_answers.specs.Counts.{no_counts, plus, of_capture}
use Rattle.cli_answers.specs.Lines.{PrintsIn}
use Rattle.cli_explain.specs.Explained.{ExplainsLines}

-- the lines of the packets of the capture of this number were printed
abbrev pub ExplainsNth : {R O : Type 0} → (R → Option (List ℕ)) → (O → Option (List ℕ)) → PacketForm → AskedFilter → ℕ → R → O → O → Printed R VerdictCounts → Type 0
ExplainsNth left contents form filter n from old new e = ExplainsLines left from (of_capture form n) filter (contents old) (contents new) e

-- The lines of the packets of these captures were printed, each capture after the one before it, until a fault ended one, or the printing
-- failed.
abbrev pub ExplainsIn : {R O : Type 0} → (R → Option (List ℕ)) → (R → ℕ) → (O → Option (List ℕ)) → PacketForm → AskedFilter → List R → O → O → PrintedCaptures R VerdictCounts → Type 0
ExplainsIn left failures contents form filter captures old new end =
    PrintsIn left failures no_counts plus (ExplainsNth left contents form filter) captures old new end
