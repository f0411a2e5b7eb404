-- Where hints are wanted, and their lines.
use Rattle.std.specs.Prelude.{ℕ, Bool, true, false, List, ◌++◌, codes}
use Rattle.line_text.specs.declared.form.LineForm.{LineForm}
use Rattle.line_text.specs.declared.form.LineForm.TheVariants.{Text, Json}
use Rattle.line_text.specs.Texts.{end_of_line}

-- below the line of a fault, indented by two blanks
abbrev pub hint_line : List ℕ → List ℕ
hint_line text = codes "  " ++ text ++ end_of_line

-- hints are wanted below lines of text only, and there if they are asked for and no line failed
abbrev pub wants_hints : LineForm → Bool → Bool → Bool
wants_hints Text asked false = asked
wants_hints Text asked true = false
wants_hints Json asked failed = false
