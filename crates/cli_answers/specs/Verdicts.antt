-- Which verdict it is.
use Rattle.std.specs.Prelude.{Bool, true, false}
use Rattle.filter_meaning.specs.declared.verdict.Verdict.{Verdict}
use Rattle.filter_meaning.specs.declared.verdict.Verdict.TheVariants.{Yes, No, Abort}

abbrev pub is_yes : Verdict → Bool
is_yes Yes = true
is_yes No = false
is_yes Abort = false

abbrev pub is_no : Verdict → Bool
is_no Yes = false
is_no No = true
is_no Abort = false

abbrev pub is_abort : Verdict → Bool
is_abort Yes = false
is_abort No = false
is_abort Abort = true
