-- Which primitives and relations of an expression a packet is asked, and which one decides.
use Rattle.std.specs.Prelude.{◌≡◌, Bool, true, false, not, List, [], ◌∷◌, ◌++◌, Option, None}
use Rattle.filter_tree.specs.Trees.{Tree, tree_of}
use Rattle.filter_tree.specs.Trees as trees
use Rattle.filter_meaning.specs.declared.verdict.Verdict.{Verdict}
use Rattle.filter_meaning.specs.declared.verdict.Verdict.TheVariants.{Yes, No, Abort}
use Rattle.filter_meaning.specs.Meaning.{Packet, opposite, meaning}
use Rattle.filter_meaning.specs.declared.cause.AbortCause.{AbortCause}
use Rattle.filter_explain.specs.declared.asking.AskedPart.{AskedPart}
use Rattle.filter_meaning.specs.Looks.{why}

-- A primitive or a relation, or the empty expression: whether an odd number of `not` stand over it, what it answers, and why where
-- it aborts.
pub record Question : Type 0 where
  pub part : Tree
  pub negated : Bool
  pub verdict : Verdict
  pub cause : Option AbortCause

-- how an answer of the code is seen
abbrev pub question_of : AskedPart → Question
question_of a = record { part = tree_of a.part.now; negated = a.negated; verdict = a.verdict; cause = a.cause }

abbrev pub where_abort : Verdict → Option AbortCause → Option AbortCause
where_abort Yes cause = None
where_abort No cause = None
where_abort Abort cause = cause

abbrev pub question : Bool → Tree → Packet → Question
question negated t p =
    record { part = t; negated = negated; verdict = meaning t p; cause = where_abort (meaning t p) (why t p) }

abbrev pub where_yes : Verdict → List Question → List Question
where_yes Yes questions = questions
where_yes No questions = []
where_yes Abort questions = []

abbrev pub where_no : Verdict → List Question → List Question
where_no Yes questions = []
where_no No questions = questions
where_no Abort questions = []

-- From left to right: the right operand of `and` is asked only after a Yes, that of `or` only after a No.
abbrev pub questions : Bool → Tree → Packet → List Question
questions negated trees.everything p = question negated trees.everything p ∷ []
questions negated (trees.test primitive) p = question negated (trees.test primitive) p ∷ []
questions negated (trees.relation c v w) p = question negated (trees.relation c v w) p ∷ []
questions negated (trees.negation t) p = questions (not negated) t p
questions negated (trees.both t u) p = questions negated t p ++ where_yes (meaning t p) (questions negated u p)
questions negated (trees.either t u) p = questions negated t p ++ where_no (meaning t p) (questions negated u p)

abbrev pub turned : Bool → Verdict → Verdict
turned true verdict = opposite verdict
turned false verdict = verdict

-- the last of those that are asked
abbrev pub IsLast : Question → List Question → Type 0
IsLast last asked = (front : List Question) × (asked ≡ front ++ last ∷ [])

-- the last of these decides: this verdict is its own, turned where an odd number of `not` stand over it
pub record LastDecides (asked : List Question) (verdict : Verdict) : Type 0 where
  pub front : List Question
  pub last : Question
  pub order : asked ≡ front ++ last ∷ []
  pub decides : verdict ≡ turned last.negated last.verdict
