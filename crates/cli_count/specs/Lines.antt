-- The lines that are printed of captures whose packets are counted.
use Rattle.std.specs.Prelude.{ℕ, List, ◌++◌, Option, Some, None, codes}
use Rattle.std.specs.Fmt.{decimal}
use Rattle.line_text.specs.Strings.{json_string}
use Rattle.line_text.specs.Forms.{in_form}
use Rattle.line_text.specs.declared.form.NamingForm.{NamingForm}
use Rattle.line_text.specs.Texts.{end_of_line}
use Rattle.visible_text.specs.Hidden.{printed_name}
use Rattle.cli_answers.specs.declared.counts.VerdictCounts.{VerdictCounts}

-- `PATH N packets: Y Yes, N No, A Abort`
unfoldable pub count_text : List ℕ → VerdictCounts → List ℕ
count_text path c = path ++ codes " " ++ decimal c.packets ++ codes " packets: " ++ decimal c.yes ++ codes " Yes, " ++ decimal c.no
    ++ codes " No, " ++ decimal c.abort ++ codes " Abort" ++ end_of_line

-- `,"NAME":N`
abbrev pub member_json : List ℕ → ℕ → List ℕ
member_json name number = codes ",\"" ++ name ++ codes "\":" ++ decimal number

-- `,"yes":Y,"no":N,"abort":A`
unfoldable pub verdicts_json : VerdictCounts → List ℕ
verdicts_json c = member_json (codes "yes") c.yes ++ member_json (codes "no") c.no ++ member_json (codes "abort") c.abort

-- `,"packets":N,"yes":Y,"no":N,"abort":A`
abbrev pub counts_json : VerdictCounts → List ℕ
counts_json c = member_json (codes "packets") c.packets ++ verdicts_json c

-- `,"instructions":N`, or `,"instructions":null` if there is no program
abbrev pub taken_json : Option ℕ → List ℕ
taken_json (Some n) = member_json (codes "instructions") n
taken_json None = codes ",\"instructions\":null"

-- `{"file":"PATH","packets":N,"yes":Y,"no":N,"abort":A,"instructions":I}`
abbrev pub count_json : List ℕ → VerdictCounts → Option ℕ → List ℕ
count_json path c taken = codes "{\"file\":" ++ json_string path ++ counts_json c ++ taken_json taken ++ codes "}\n"

-- `{"packets":N`
unfoldable pub packets_json : ℕ → List ℕ
packets_json n = codes "{\"packets\":" ++ decimal n

-- `{"packets":N,"yes":Y,"no":N,"abort":A,"instructions":I}`
abbrev pub sum_json : VerdictCounts → Option ℕ → List ℕ
sum_json c taken = packets_json c.packets ++ verdicts_json c ++ taken_json taken ++ codes "}\n"

-- the line of the counts of the capture at a path
abbrev pub count_line : NamingForm → List ℕ → VerdictCounts → Option ℕ → List ℕ
count_line form path c taken = in_form form.form (count_text (printed_name form.is_terminal path) c) (count_json path c taken)

-- `{"file":"PATH"}`
unfoldable pub path_json : List ℕ → List ℕ
path_json path = codes "{\"file\":" ++ json_string path ++ codes "}" ++ end_of_line

-- the line of a path
abbrev pub path_line : NamingForm → List ℕ → List ℕ
path_line form path = in_form form.form (printed_name form.is_terminal path ++ end_of_line) (path_json path)
