-- What is printed of a capture, and the exit status.
use Rattle.std.specs.Prelude.{ℕ, List, ◌++◌, Option, Result, Ok, Err}
use Rattle.savefile.specs.declared.fault.Fault.{Fault}
use Rattle.savefile.specs.declared.header.Header.{Header}
use Rattle.pcap_info.specs.declared.contents.Contents.{Contents}
use Rattle.line_text.specs.Forms.{in_form}
use Rattle.line_text.specs.declared.form.NamingForm.{NamingForm}
use Rattle.visible_text.specs.Hidden.{printed_name}
use Rattle.cli_text.specs.declared.status.Status.{Status}
use Rattle.cli_text.specs.declared.status.Status.TheVariants.{Clean}
use Rattle.cli_text.specs.Telling.{fault_status}
use Rattle.cli_info.specs.Lines.{rest_of_line}
use Rattle.cli_info.specs.Objects.{object_json}

-- the line of the capture at a path
abbrev pub line_in : {A : Type 0} → NamingForm → List ℕ → Option Header → Contents → Result A Fault → List ℕ
line_in form path header c read = in_form form.form (printed_name form.is_terminal path ++ rest_of_line header c read) (object_json path header c read)

-- the exit status of a capture that was read so
abbrev pub survey_status : {A : Type 0} → Result A Fault → Status
survey_status (Ok done) = Clean
survey_status (Err fault) = fault_status fault
