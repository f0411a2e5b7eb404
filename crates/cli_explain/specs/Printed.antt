-- What is printed of a capture.
use Rattle.std.specs.Prelude.{ℕ, List, ◌++◌, codes}
use Rattle.std.specs.Fmt.{decimal}
use Rattle.filter_explain.specs.Deciding.{verdict_text}
use Rattle.line_text.specs.Texts.{end_of_line}
use Rattle.cli_answers.specs.Answers.{Answer}
use Rattle.cli_answers.specs.Printed.{packet_text}

-- the line of a packet at a place
abbrev pub answer_line : ℕ → Answer → List ℕ
answer_line place a = packet_text place a.packet ++ (verdict_text a.verdict ++ codes " ") ++ a.reason ++ end_of_line
