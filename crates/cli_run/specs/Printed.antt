-- What is printed of a replay, as text and as JSON Lines, and the lines that are reported of it.
use Rattle.std.specs.Prelude.{ℕ, List, [], ◌++◌, codes}
use Rattle.std.specs.Fmt.{decimal}
use Rattle.savefile.specs.Faults.{fault_text}
use Rattle.replay_types.specs.declared.report.InterfaceEnd.{InterfaceEnd}
use Rattle.replay_types.specs.declared.report.InterfaceEnd.TheVariants as interface
use Rattle.replay_types.specs.declared.report.InterfaceReport.{InterfaceReport}
use Rattle.replay_types.specs.declared.report.ListenerReport.{ListenerReport}
use Rattle.replay_types.specs.declared.report.TaskEnd.{TaskEnd}
use Rattle.replay_types.specs.declared.report.TaskEnd.TheVariants as task
use Rattle.line_text.specs.declared.form.LineForm.{LineForm}
use Rattle.line_text.specs.declared.form.LineForm.TheVariants.{Text, Json}
use Rattle.cli_text.specs.Telling.{told_line}
use Rattle.line_text.specs.Texts.{end_of_line}
use Rattle.line_text.specs.Texts.{numbered}

-- how the writing of a listener's packets ended
abbrev pub end_text : TaskEnd → List ℕ
end_text task.Clean = codes "Clean"
end_text (task.Write bytes) = codes "Write " ++ decimal bytes
end_text task.Unfinished = codes "Unfinished"

-- `interface I listener L received R matched M dropped D written N END`
abbrev pub listener_text : {W : Type 0} → ℕ → ℕ → ListenerReport W → List ℕ
listener_text i l report = codes "interface " ++ decimal i ++ codes " listener " ++ decimal l
    ++ codes " received " ++ decimal report.received ++ codes " matched " ++ decimal report.matched
    ++ codes " dropped " ++ decimal report.dropped ++ codes " written " ++ decimal report.written
    ++ codes " " ++ end_text report.end ++ end_of_line

-- the same end as members of an object
abbrev pub end_members : TaskEnd → List ℕ
end_members task.Clean = codes "\"end\":\"clean\""
end_members (task.Write bytes) = codes "\"end\":\"write\",\"bytes\":" ++ decimal bytes
end_members task.Unfinished = codes "\"end\":\"unfinished\""

-- `{"interface":I,"listener":L,"received":R,"matched":M,"dropped":D,"written":N,END}`
unfoldable pub listener_object : {W : Type 0} → ℕ → ℕ → ListenerReport W → List ℕ
listener_object i l report = codes "{\"interface\":" ++ decimal i ++ codes ",\"listener\":" ++ decimal l
    ++ codes ",\"received\":" ++ decimal report.received ++ codes ",\"matched\":" ++ decimal report.matched
    ++ codes ",\"dropped\":" ++ decimal report.dropped ++ codes ",\"written\":" ++ decimal report.written
    ++ codes "," ++ end_members report.end ++ codes "}" ++ end_of_line

abbrev pub listener_line : {W : Type 0} → LineForm → ℕ → ℕ → ListenerReport W → List ℕ
listener_line Text i l report = listener_text i l report
listener_line Json i l report = listener_object i l report

-- the lines of an interface's listeners, numbered from 0
abbrev pub interface_lines : {R W : Type 0} → LineForm → ℕ → InterfaceReport R W → List ℕ
interface_lines form i report = numbered (listener_line form i) 0 report.listeners.items

-- those of all interfaces, numbered from 0
abbrev pub printed_replay : {R W : Type 0} → LineForm → List (InterfaceReport R W) → List ℕ
printed_replay form reports = numbered (interface_lines form) 0 reports

-- the line that is reported of an interface that did not end clean
abbrev pub interface_told : ℕ → InterfaceEnd → List ℕ
interface_told i interface.Clean = []
interface_told i (interface.Capture n fault) =
    told_line (codes "Interface " ++ decimal i ++ codes " Capture " ++ decimal n ++ codes " " ++ fault_text fault)
interface_told i interface.CountFull = told_line (codes "Interface " ++ decimal i ++ codes " CountFull")

-- the lines that are reported of all interfaces
abbrev pub told_replay : {R W : Type 0} → List (InterfaceReport R W) → List ℕ
told_replay reports = numbered (λ i report. interface_told i report.end) 0 reports
