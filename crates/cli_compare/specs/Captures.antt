-- Several captures that are read in order, up to the first fault.
use Rattle.std.specs.Prelude.{ℕ, List, Option}
use Rattle.cli_answers.specs.declared.form.PacketForm.{PacketForm}
use Rattle.cli_answers.specs.declared.lines.Printed.{Printed}
use Rattle.cli_answers.specs.declared.lines.PrintedCaptures.{PrintedCaptures}
use Rattle.cli_answers.specs.Counts.{of_capture}
use Rattle.cli_answers.specs.Lines.{PrintsIn}
use Rattle.cli_compare.specs.declared.each.DifferenceCounts.{DifferenceCounts}
use Rattle.cli_compare.specs.declared.pair.FilterPair.{FilterPair}
use Rattle.cli_compare.specs.Compared.{Compares}
use Rattle.cli_compare.specs.Pairs.{no_counts, plus}

-- the lines of the packets of the capture of this number that are treated differently were printed, and all its packets counted
abbrev pub ComparesNth : {R O : Type 0} → (R → Option (List ℕ)) → (O → Option (List ℕ)) → PacketForm → FilterPair → ℕ → R → O → O → Printed R DifferenceCounts → Type 0
ComparesNth left contents form pair n from old new c = Compares left from (of_capture form n) pair (contents old) (contents new) c

-- The lines of the packets of these captures that are treated differently were printed, each capture after the one before it, until a fault
-- ended one, or the printing failed.
abbrev pub ComparesIn : {R O : Type 0} → (R → Option (List ℕ)) → (R → ℕ) → (O → Option (List ℕ)) → PacketForm → FilterPair → List R → O → O → PrintedCaptures R DifferenceCounts → Type 0
ComparesIn left failures contents form pair captures old new end =
    PrintsIn left failures no_counts plus (ComparesNth left contents form pair) captures old new end
