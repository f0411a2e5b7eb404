-- The two forms of a line.
use Rattle.std.specs.Prelude.{List, ℕ}
use Rattle.line_text.specs.declared.form.LineForm.{LineForm}
use Rattle.line_text.specs.declared.form.LineForm.TheVariants.{Text, Json}

-- the line in this form, of its text and of its object
abbrev pub in_form : LineForm → List ℕ → List ℕ → List ℕ
in_form Text text object = text
in_form Json text object = object
