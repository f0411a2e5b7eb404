-- How a cut is reported, and the exit statuses of a cut and of a print.
use Rattle.std.specs.Prelude.{ℕ, Bool, true, false, if◌then◌else◌, List, [], ◌++◌, Result, Ok, Err, codes}
use Rattle.std.specs.Fmt.{decimal}
use Rattle.cli_text.specs.Telling.{fault_status}
use Rattle.line_text.specs.Texts.{end_of_line}
use Rattle.cli_text.specs.declared.status.Status.{Status}
use Rattle.cli_text.specs.declared.status.Status.TheVariants as status
use Rattle.cli_cut.specs.declared.print.PrintFault.{PrintFault}
use Rattle.cli_cut.specs.declared.print.PrintFault.TheVariants as print
use Rattle.line_text.specs.declared.form.LineForm.{LineForm}
use Rattle.line_text.specs.declared.form.LineForm.TheVariants.{Text, Json}
use Rattle.pcap_cut.specs.declared.cut.Tally.{Tally}
use Rattle.pcap_cut.specs.declared.cut.End.{End}
use Rattle.pcap_cut.specs.declared.cut.End.TheVariants.{Clean, Input, Output}

-- the exit status of a cut
abbrev pub status_of : End → Status
status_of Clean = status.Clean
status_of (Input fault) = fault_status fault
status_of (Output fault) = fault_status fault

-- a capture that is damaged has whole packets before
abbrev pub is_damaged : Status → Bool
is_damaged status.Damaged = true
is_damaged other = false

-- what OUT has is known by packets: the capture was read to its end or to a torn or bad record, and all was written
abbrev pub is_counted : End → Bool
is_counted Clean = true
is_counted (Input fault) = is_damaged (fault_status fault)
is_counted (Output fault) = false

-- `W of R packets`
unfoldable pub tally_text : Tally → List ℕ
tally_text t = decimal t.written ++ codes " of " ++ decimal t.read ++ codes " packets" ++ end_of_line

-- `{"kept":W,"packets":R}`
unfoldable pub tally_json : Tally → List ℕ
tally_json t = codes "{\"kept\":" ++ decimal t.written ++ codes ",\"packets\":" ++ decimal t.read ++ codes "}" ++ end_of_line

abbrev pub tally_line : LineForm → Tally → List ℕ
tally_line Text t = tally_text t
tally_line Json t = tally_json t

-- how the tally of a cut is reported
abbrev pub count_told : LineForm → End → Tally → List ℕ
count_told form end t = if is_counted end then tally_line form t else []

-- the exit status of a print
abbrev pub print_status : {A : Type 0} → Result A PrintFault → Status
print_status (Ok done) = status.Clean
print_status (Err (print.Output error)) = status.Failed
print_status (Err fault) = status.Refused
