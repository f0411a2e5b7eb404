-- Where the exit status of a split is clean, nothing failed.
use Rattle.std.proofs.Common.{◌≡◌, All, List, [], ◌∷◌, Ok, Err, Result, arith, fold, refl, sym, ◌∙◌}
use Rattle.std.specs.Prelude.{IsOk}
use Rattle.std.specs.declared.io.Error.{Error}
use Rattle.savefile.specs.declared.fault.Fault.{Fault}
use Rattle.cli_text.specs.Status.{greater}
use Rattle.cli_text.specs.Telling.{fault_status, print_status_of}
use Rattle.cli_text.specs.declared.status.Status.{Status}
use Rattle.cli_text.specs.declared.status.Status.TheVariants.{Clean}
use Rattle.cli_files.specs.Paths.{IsPathStatus}
use Rattle.cli_files.specs.declared.paths.PathFault.{PathFault}
use Rattle.cli_files.specs.declared.paths.PathFault.TheVariants as paths
use Rattle.cli_split.specs.SplitFiles.{IsFileStatus, IsRefusalStatus}
use Rattle.cli_split.specs.Statuses.{WentWell, parts_status, split_status, stop_status, written_status}
use Rattle.cli_split.specs.declared.outcome.Refusal.{Refusal}
use Rattle.cli_split.specs.declared.outcome.Refusal.TheVariants as refusal
use Rattle.cli_split.specs.declared.part.PartEnd.{PartEnd}
use Rattle.cli_split.specs.declared.split.SplitEnd.{SplitEnd}
use Rattle.cli_split.specs.declared.split.Stop.{Stop}
use Rattle.cli_split.specs.declared.split.Stop.TheVariants.{AtHeader, AtRecord}
use Rattle.cli_split.proofs.OwnFiles.{all-cons, all-none}

-- the greater of two is clean only where both are
clean-both : (a b : Status) → greater a b ≡ Clean → (a ≡ Clean) × (b ≡ Clean)
clean-both a b is = grind arith

-- no fault's is
is-fault : (f : Fault) → fault_status f ≡ Clean → ⊥
is-fault f is = grind arith

print-well : (printed : Result (Unit {0}) Error) → print_status_of printed ≡ Clean → IsOk printed
print-well (Ok done) is = refl
print-well (Err error) is = absurd cc

written-well : (written : Result (Unit {0}) Fault) → written_status written ≡ Clean → IsOk written
written-well (Ok done) is = refl
written-well (Err f) is = absurd (is-fault f is)

stop-well : (end : Result (Unit {0}) Stop) → stop_status end ≡ Clean → IsOk end
stop-well (Ok done) is = refl
stop-well (Err (AtHeader n f)) is = absurd (is-fault f is)
stop-well (Err (AtRecord n f)) is = absurd (is-fault f is)

parts-well : {W : Type 0} (before : Status) (parts : List (PartEnd W)) → fold (λ s part. greater s (written_status part.written)) before parts ≡ Clean
    → (before ≡ Clean) × All (λ part. IsOk part.written) parts
parts-well before [] is = (is, all-none (λ part. IsOk part.written))
parts-well before (p ∷ ps) is =
    let rest = parts-well (greater before (written_status p.written)) ps is in
    let both = clean-both before (written_status p.written) rest.0 in
    (both.0, all-cons (λ part. IsOk part.written) p ps (written-well p.written both.1) rest.1)

went-well : {R W : Type 0} (end : SplitEnd R W) → split_status end ≡ Clean → WentWell end
went-well end is =
    let both = clean-both (parts_status end.parts.items) (stop_status end.end) is in
    (stop-well end.end both.1, (parts-well Clean end.parts.items both.0).1)

-- the greater of the statuses of printing and of a split is clean where both went well
pub all-well : {R W : Type 0} (printed : Result (Unit {0}) Error) (end : SplitEnd R W) (first second ended : Status) → ended ≡ greater first second
    → first ≡ print_status_of printed → second ≡ split_status end → ended ≡ Clean → IsOk printed × WentWell end
all-well printed end first second ended greatest is-first is-second is =
    let both = clean-both first second (sym greatest ∙ is) in
    (print-well printed (sym is-first ∙ both.0), went-well end (sym is-second ∙ both.1))

-- no refusal's is
file-refused : (error : Error) (ended : Status) → IsFileStatus error ended → ended ≡ Clean → ⊥
file-refused error ended is clean = let failed = is.1 (λ memory. let refused = is.0 memory in absurd cc) in absurd cc

path-refused : (f : PathFault) (ended : Status) → IsPathStatus f ended → ended ≡ Clean → ⊥
path-refused (paths.Same path taken_for) ended is clean = absurd cc
path-refused (paths.Printed path) ended is clean = absurd cc
path-refused (paths.Unknown path error) ended is clean = file-refused error ended is clean
path-refused paths.NoMemory ended is clean = absurd cc

pub refused : (reason : Refusal) (ended : Status) → IsRefusalStatus reason ended → ended ≡ Clean → ⊥
refused (refusal.Lines text f) ended is clean = absurd cc
refused (refusal.TextTooLong path) ended is clean = absurd cc
refused (refusal.Paths f) ended is clean = path-refused f ended is clean
refused (refusal.File path error) ended is clean = file-refused error ended is clean
refused refusal.NoMemory ended is clean = absurd cc
