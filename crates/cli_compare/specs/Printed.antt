-- What is printed of the packets that two filters treat differently.
use Rattle.std.specs.Prelude.{ℕ, ◌+◌, List, ◌++◌, codes}
use Rattle.std.specs.Fmt.{decimal}
use Rattle.std.specs.List.{flat_map}
use Rattle.filter_explain.specs.Deciding.{verdict_text}
use Rattle.line_text.specs.Texts.{end_of_line}
use Rattle.cli_answers.specs.declared.form.PacketForm.{PacketForm}
use Rattle.cli_answers.specs.declared.form.PacketForm.TheVariants.{Text, Json}
use Rattle.cli_answers.specs.Answers.{Answer}
use Rattle.cli_answers.specs.Objects.{packet_json, verdict_json}
use Rattle.cli_answers.specs.Printed.{packet_text}
use Rattle.cli_compare.specs.declared.each.DifferenceCounts.{DifferenceCounts}
use Rattle.cli_compare.specs.Pairs.{Difference}

-- `place P time S.NNNNNNNNN len W captured C first Yes REASON second No REASON`
abbrev pub difference_text : Difference → List ℕ
difference_text d =
    packet_text d.place d.first.packet ++ codes "first " ++ (verdict_text d.first.verdict ++ codes " ") ++ d.first.reason
    ++ codes " second " ++ (verdict_text d.second.verdict ++ codes " ") ++ d.second.reason ++ end_of_line

-- after this text, what each filter answers, and the end of an object: `"first":{..},"second":{..}}`
abbrev pub with_both : List ℕ → (first second : Answer) → List ℕ
with_both text first second =
    text ++ codes "\"first\":{" ++ verdict_json first.verdict ++ first.reason ++ codes "},\"second\":{" ++ verdict_json second.verdict ++ second.reason
    ++ codes "}}\n"

-- the object of a packet of a capture
abbrev pub difference_json : ℕ → Difference → List ℕ
difference_json capture d = with_both (packet_json capture d.place d.first.packet) d.first d.second

-- the line of a packet
abbrev pub difference_line : PacketForm → Difference → List ℕ
difference_line Text d = difference_text d
difference_line (Json capture) d = difference_json capture d

abbrev pub difference_lines : PacketForm → List Difference → List ℕ
difference_lines form differences = flat_map (difference_line form) differences

-- `N packets: D differ, F accepted by the first alone, S by the second`
abbrev pub counts_text : (packets differ first second : ℕ) → List ℕ
counts_text packets differ first second =
    (decimal packets ++ codes " packets: ") ++ (decimal differ ++ codes " differ, ") ++ (decimal first ++ codes " accepted by the first alone, ")
    ++ (decimal second ++ codes " by the second") ++ end_of_line

-- `{"packets":N,"differ":D,"first":F,"second":S}`
unfoldable pub counts_json : (packets differ first second : ℕ) → List ℕ
counts_json packets differ first second =
    codes "{\"packets\":" ++ decimal packets ++ codes ",\"differ\":" ++ decimal differ ++ codes ",\"first\":" ++ decimal first
    ++ codes ",\"second\":" ++ decimal second ++ codes "}" ++ end_of_line

-- the line of the counts
abbrev pub counts_in : PacketForm → (packets differ first second : ℕ) → List ℕ
counts_in Text packets differ first second = counts_text packets differ first second
counts_in (Json capture) packets differ first second = counts_json packets differ first second

abbrev pub line_of : PacketForm → DifferenceCounts → List ℕ
line_of form counts = counts_in form counts.packets (counts.first + counts.second) counts.first counts.second
