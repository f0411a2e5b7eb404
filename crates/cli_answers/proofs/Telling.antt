-- What is among some reports is among more of them.
use Rattle.std.proofs.Common.{ℕ, List, Result, Bor}
use Rattle.fault_report.specs.declared.report.Report.{Report}
use Rattle.cli_walk.specs.declared.walk.Stop.{Stop}
use Rattle.cli_answers.specs.declared.printing.Unprinted.{Unprinted}
use Rattle.cli_answers.specs.Telling.{IsStopReport, IsUnprintedReport, TellsEnd, TellsStop, TellsUnprinted}

pub unprinted-later : {A : Type 0} (among among' : (Report → Type 0) → Type 0) (printed : Result A Unprinted) → ((says : Report → Type 0) → among says → among' says)
    → TellsUnprinted among printed → TellsUnprinted among' printed
unprinted-later among among' printed on told = λ why is reported. on (IsUnprintedReport why) (told why is reported)

pub stop-later : {A : Type 0} (among among' : (Report → Type 0) → Type 0) (paths : List (Bor (List ℕ))) (read : Result A Stop) → ((says : Report → Type 0) → among says → among' says)
    → TellsStop among paths read → TellsStop among' paths read
stop-later among among' paths read on told = λ stop is. on (IsStopReport paths stop) (told stop is)

pub end-later : {A B : Type 0} (among among' : (Report → Type 0) → Type 0) (paths : List (Bor (List ℕ))) (printed : Result A Unprinted) (read : Result B Stop) → ((says : Report → Type 0) → among says → among' says)
    → TellsEnd among paths printed read → TellsEnd among' paths printed read
end-later among among' paths printed read on told = (unprinted-later among among' printed on told.0, stop-later among among' paths read on told.1)
