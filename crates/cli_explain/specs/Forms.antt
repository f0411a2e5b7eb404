-- The forms of the lines that are printed: texts, or objects of JSON.
use Rattle.std.specs.Prelude.{ℕ, List, ◌++◌, codes}
use Rattle.cli_answers.specs.declared.form.PacketForm.{PacketForm}
use Rattle.cli_answers.specs.declared.form.PacketForm.TheVariants.{Text, Json}
use Rattle.cli_answers.specs.Answers.{Answer}
use Rattle.cli_answers.specs.Dumps.{hex_text}
use Rattle.cli_answers.specs.Objects.{packet_json, verdict_json}
use Rattle.cli_explain.specs.Printed.{answer_line}

-- the object of a packet at a place of a capture
abbrev pub answer_json : (capture place : ℕ) → Answer → List ℕ
answer_json capture place a = packet_json capture place a.packet ++ verdict_json a.verdict ++ a.reason ++ codes "}\n"

-- The object of a packet in full, in a line: first what its object has, then its captured bytes as digits, and then more.
abbrev pub whole_json : (capture place : ℕ) → Answer → (more : List ℕ) → List ℕ
whole_json capture place a more =
    packet_json capture place a.packet ++ verdict_json a.verdict ++ a.reason ++ codes ",\"bytes\":\"" ++ hex_text a.packet.bytes ++ codes "\"," ++ more ++ codes "}\n"

-- the line of a packet at a place
abbrev pub line_in : PacketForm → ℕ → Answer → List ℕ
line_in Text place a = answer_line place a
line_in (Json capture) place a = answer_json capture place a

-- what is printed of a packet in full: its line, and more; or its object with more in it
abbrev pub whole_in : PacketForm → ℕ → Answer → (more : List ℕ) → List ℕ
whole_in Text place a more = answer_line place a ++ more
whole_in (Json capture) place a more = whole_json capture place a more
