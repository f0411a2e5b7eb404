-- How a fault is reported, and its exit status.
use Rattle.std.specs.Prelude.{ℕ, Bool, true, false, List, [], ◌∷◌, ◌++◌, Result, Ok, Err, if◌then◌else◌, codes}
use Rattle.std.specs.IoError.{error_kind}
use Rattle.std.specs.declared.io.Error.{Error}
use Rattle.std.specs.declared.io.ErrorKind.{ErrorKind}
use Rattle.std.specs.declared.io.ErrorKind.TheVariants.{BrokenPipe}
use Rattle.savefile.specs.declared.fault.Fault.{Fault}
use Rattle.savefile.specs.declared.fault.Fault.TheVariants.{TornRecord, BadFraction, TooLong, Device}
use Rattle.line_text.specs.Texts.{end_of_line}
use Rattle.cli_text.specs.declared.status.Status.{Status}
use Rattle.cli_text.specs.declared.status.Status.TheVariants.{Clean, Refused, Damaged, Failed}

-- the exit status of a capture's fault
abbrev pub fault_status : Fault → Status
fault_status Device = Failed
fault_status (TornRecord place) = Damaged
fault_status (BadFraction place) = Damaged
fault_status (TooLong place) = Damaged
fault_status other = Refused

-- the line of a fault on standard error
abbrev pub told_line : List ℕ → List ℕ
told_line text = codes "bpftap: " ++ text ++ end_of_line

-- whether it is that nobody reads any more
abbrev pub is_unread : ErrorKind → Bool
is_unread BrokenPipe = true
is_unread _ = false

-- the line of standard output that failed; there is none where nobody reads it any more
abbrev pub output_line : {A : Type 0} → Result A Error → List ℕ
output_line (Ok done) = []
output_line (Err error) = if is_unread (error_kind error) then [] else told_line (codes "Device standard output")

-- the exit status of printing
abbrev pub print_status_of : {A E : Type 0} → Result A E → Status
print_status_of (Ok done) = Clean
print_status_of (Err fault) = Failed
