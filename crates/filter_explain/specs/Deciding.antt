-- What decides an expression's answer to a packet.
use Rattle.std.specs.Prelude.{ℕ, Bool, true, false, List, [], ◌∷◌, ◌++◌, Option, Some, None, codes}
use Rattle.std.specs.Fmt.{decimal}
use Rattle.filter_tree.specs.Trees.{Tree}
use Rattle.filter_tree.specs.Trees as trees
use Rattle.filter_meaning.specs.declared.verdict.Verdict.{Verdict}
use Rattle.filter_meaning.specs.declared.verdict.Verdict.TheVariants.{Yes, No, Abort}
use Rattle.filter_meaning.specs.Meaning.{Packet, meaning}
use Rattle.filter_print.specs.Canonical.{canonical}
use Rattle.filter_meaning.specs.declared.cause.AbortCause.{AbortCause}
use Rattle.filter_meaning.specs.declared.cause.AbortCause.TheVariants.{NotCaptured, ZeroDivisor}
use Rattle.filter_explain.specs.Asking.{Question, questions}

abbrev pub verdict_text : Verdict → List ℕ
verdict_text Yes = codes "Yes"
verdict_text No = codes "No"
verdict_text Abort = codes "Abort"

-- A primitive or a relation, which `not` negates; a relation stands in parentheses then.
abbrev pub negated_text : Tree → List ℕ
negated_text trees.everything = codes "the empty expression"
negated_text (trees.relation c v w) = codes "not (" ++ canonical (trees.relation c v w) ++ codes ")"
negated_text t = codes "not " ++ canonical t

-- its canonical text
abbrev pub plain_text : Tree → List ℕ
plain_text trees.everything = codes "the empty expression"
plain_text t = canonical t

abbrev pub part_text : Bool → Tree → List ℕ
part_text true t = negated_text t
part_text false t = plain_text t

-- why it aborted, where it did
abbrev pub cause_text : Option AbortCause → List ℕ
cause_text None = []
cause_text (Some (NotCaptured place)) = codes ", byte " ++ decimal place ++ codes " is not captured"
cause_text (Some ZeroDivisor) = codes ", the divisor is 0"

abbrev pub question_text : Question → List ℕ
question_text q = part_text q.negated q.part ++ cause_text q.cause

-- of the primitives and relations that a packet is asked, the last one, which decides
abbrev pub last_text : List Question → List ℕ
last_text [] = []
last_text (q ∷ []) = question_text q
last_text (q ∷ r ∷ later) = last_text (r ∷ later)

-- `VERDICT PART`: what an expression answers to a packet, and what decides
abbrev pub decision_text : Tree → Packet → List ℕ
decision_text tree packet = verdict_text (meaning tree packet) ++ codes " " ++ last_text (questions false tree packet)
