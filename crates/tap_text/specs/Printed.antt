-- The lines that are printed of reports, as text and as JSON Lines.
use Rattle.std.specs.Prelude.{ℕ, List, ◌++◌, length, codes}
use Rattle.std.specs.List.{flat_map}
use Rattle.std.specs.Fmt.{decimal}
use Rattle.listener.specs.declared.message.Message.{Message}
use Rattle.tap_steps.specs.declared.report.Report.{Report}
use Rattle.tap_steps.specs.Reports.{held_in}
use Rattle.line_text.specs.declared.form.LineForm.{LineForm}
use Rattle.line_text.specs.declared.form.LineForm.TheVariants.{Text, Json}
use Rattle.line_text.specs.Texts.{end_of_line}
use Rattle.line_text.specs.Texts.{numbered}
use Rattle.line_text.specs.Time.{nine_digits}
use Rattle.tap_text.specs.declared.objects.ReportPart.{ReportPart}
use Rattle.tap_text.specs.declared.objects.ReportPart.TheVariants.{Batch, Held}

-- ---- As text

-- `capture C place P time S.NNNNNNNNN len W kept K`
unfoldable pub message_line : Message → List ℕ
message_line m = codes "capture " ++ decimal m.capture ++ codes " place " ++ decimal m.place
    ++ codes " time " ++ decimal m.sec ++ codes "." ++ nine_digits m.nanos
    ++ codes " len " ++ decimal m.len ++ codes " kept " ++ decimal (length m.bytes) ++ end_of_line

-- `batch B`, or `held`
abbrev pub part_line : ReportPart → List ℕ
part_line (Batch b) = codes "batch " ++ decimal b ++ end_of_line
part_line Held = codes "held" ++ end_of_line

-- `listener L received R matched M dropped D`
abbrev pub listener_line : ℕ → Report → List ℕ
listener_line l report = codes "listener " ++ decimal l ++ codes " received " ++ decimal report.received
    ++ codes " matched " ++ decimal report.matched ++ codes " dropped " ++ decimal report.dropped ++ end_of_line

-- ---- As JSON: each object names its listener, and that of a message the part that it is in

-- `"batch":B`, or `"held":true`
abbrev pub part_member : ReportPart → List ℕ
part_member (Batch b) = codes "\"batch\":" ++ decimal b
part_member Held = codes "\"held\":true"

-- `{"listener":L,PART,"capture":C,"place":P,"seconds":S,"nanoseconds":N,"length":W,"kept":K}`
unfoldable pub message_object : ℕ → ReportPart → Message → List ℕ
message_object l part m = codes "{\"listener\":" ++ decimal l ++ codes "," ++ part_member part
    ++ codes ",\"capture\":" ++ decimal m.capture ++ codes ",\"place\":" ++ decimal m.place
    ++ codes ",\"seconds\":" ++ decimal m.sec ++ codes ",\"nanoseconds\":" ++ decimal m.nanos
    ++ codes ",\"length\":" ++ decimal m.len ++ codes ",\"kept\":" ++ decimal (length m.bytes) ++ codes "}" ++ end_of_line

-- `{"listener":L,PART}`
unfoldable pub part_object : ℕ → ReportPart → List ℕ
part_object l part = codes "{\"listener\":" ++ decimal l ++ codes "," ++ part_member part ++ codes "}" ++ end_of_line

-- `{"listener":L,"received":R,"matched":M,"dropped":D}`
unfoldable pub listener_object : ℕ → Report → List ℕ
listener_object l report = codes "{\"listener\":" ++ decimal l ++ codes ",\"received\":" ++ decimal report.received
    ++ codes ",\"matched\":" ++ decimal report.matched ++ codes ",\"dropped\":" ++ decimal report.dropped ++ codes "}" ++ end_of_line

-- ---- In either form

abbrev pub message_in : LineForm → ℕ → ReportPart → Message → List ℕ
message_in Text l part m = message_line m
message_in Json l part m = message_object l part m

abbrev pub messages_in : LineForm → ℕ → ReportPart → List Message → List ℕ
messages_in form l part messages = flat_map (message_in form l part) messages

abbrev pub part_in : LineForm → ℕ → ReportPart → List ℕ
part_in Text l part = part_line part
part_in Json l part = part_object l part

abbrev pub listener_in : LineForm → ℕ → Report → List ℕ
listener_in Text l report = listener_line l report
listener_in Json l report = listener_object l report

-- a part's line, and its messages
abbrev pub part_lines : LineForm → ℕ → ReportPart → List Message → List ℕ
part_lines form l part messages = part_in form l part ++ messages_in form l part messages

-- a listener's batches, numbered from 0
abbrev pub batches_in : LineForm → ℕ → Report → List ℕ
batches_in form l report = numbered (λ b batch. part_lines form l (Batch b) batch.items) 0 report.batches.items

-- a listener's line, its batches, and what its buffers hold
abbrev pub report_lines : LineForm → ℕ → Report → List ℕ
report_lines form l report = listener_in form l report ++ batches_in form l report ++ part_lines form l Held (held_in report)

-- the reports of all listeners, numbered from 0
abbrev pub reports_in : LineForm → List Report → List ℕ
reports_in form reports = numbered (report_lines form) 0 reports

-- their text
abbrev pub printed_reports : List Report → List ℕ
printed_reports reports = reports_in Text reports
