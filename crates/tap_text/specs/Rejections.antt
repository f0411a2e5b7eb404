-- Why an expression rejects a packet.
use Rattle.std.specs.Prelude.{ℕ, Bool, true, false, List, [], ◌∷◌, ◌++◌, Option, Some, None, if◌then◌else◌, codes}
use Rattle.std.specs.Fmt.{decimal}
use Rattle.filter_tree.specs.declared.tree.Expr.{Expr}
use Rattle.filter_tree.specs.Trees.{Tree, tree_of}
use Rattle.filter_meaning.specs.Meaning.{Packet, meaning, packet_of}
use Rattle.filter_meaning.specs.declared.cause.AbortCause.{AbortCause}
use Rattle.filter_meaning.specs.declared.cause.AbortCause.TheVariants.{NotCaptured, ZeroDivisor}
use Rattle.filter_meaning.specs.declared.verdict.Verdict.{Verdict}
use Rattle.filter_meaning.specs.declared.verdict.Verdict.TheVariants.{Yes, No, Abort}
use Rattle.filter_explain.specs.Asking.{Question, questions}
use Rattle.filter_explain.specs.Deciding.{decision_text, part_text}
use Rattle.listener.specs.declared.answer.Fed.TheVariants.{Passed}
use Rattle.line_text.specs.Strings.{json_string}
use Rattle.line_text.specs.declared.form.LineForm.{LineForm}
use Rattle.line_text.specs.declared.form.LineForm.TheVariants.{Text, Json}
use Rattle.tap_steps.specs.declared.answer.Answer.{Answer}
use Rattle.tap_steps.specs.declared.answer.Answer.TheVariants.{Arrived}
use Rattle.tap_steps.specs.declared.playlist.PlacedPacket.{PlacedPacket}

-- `: VERDICT PART`: of a filter that is an expression
abbrev pub decision_of : PlacedPacket → Option Expr → List ℕ
decision_of p None = []
decision_of p (Some expr) = codes ": " ++ decision_text (tree_of expr) (packet_of p.packet.bytes p.packet.len)

-- the answer says that the filter rejects the packet
abbrev pub rejects : Answer → Bool
rejects (Arrived Passed) = true
rejects other = false

-- what follows the answer to this packet: why it was rejected
abbrev pub rejection : PlacedPacket → Option Expr → Answer → List ℕ
rejection p expr answer = if rejects answer then decision_of p expr else []

-- `,"capture":C,"place":P`
abbrev pub place_members : PlacedPacket → List ℕ
place_members p = codes ",\"capture\":" ++ decimal p.capture ++ codes ",\"place\":" ++ decimal p.place

-- ---- As members of an object, each after a comma

-- `,"verdict":"no"`
abbrev pub verdict_member : Verdict → List ℕ
verdict_member Yes = codes ",\"verdict\":\"yes\""
verdict_member No = codes ",\"verdict\":\"no\""
verdict_member Abort = codes ",\"verdict\":\"abort\""

-- `,"cause":{"byte":B}`: why a primitive or a relation aborted, where it did
abbrev pub cause_member : Option AbortCause → List ℕ
cause_member None = []
cause_member (Some (NotCaptured place)) = codes ",\"cause\":{\"byte\":" ++ decimal place ++ codes "}"
cause_member (Some ZeroDivisor) = codes ",\"cause\":{\"divisor\":0}"

-- `,"decided":PART`, in the words of the text, and the cause
abbrev pub question_members : Question → List ℕ
question_members q = codes ",\"decided\":" ++ json_string (part_text q.negated q.part) ++ cause_member q.cause

-- of the primitives and relations that a packet is asked, the last one, which decides
abbrev pub last_members : List Question → List ℕ
last_members [] = []
last_members (q ∷ []) = question_members q
last_members (q ∷ r ∷ later) = last_members (r ∷ later)

-- what an expression answers to a packet, and what decides
abbrev pub decision_members : Tree → Packet → List ℕ
decision_members tree packet = verdict_member (meaning tree packet) ++ last_members (questions false tree packet)

-- the same of a filter that is an expression
abbrev pub members_of : PlacedPacket → Option Expr → List ℕ
members_of p None = []
members_of p (Some expr) = decision_members (tree_of expr) (packet_of p.packet.bytes p.packet.len)

abbrev pub rejection_members : PlacedPacket → Option Expr → Answer → List ℕ
rejection_members p expr answer = if rejects answer then members_of p expr else []

-- ---- In either form: in JSON the packet comes before

abbrev pub rejection_in : LineForm → PlacedPacket → Option Expr → Answer → List ℕ
rejection_in Text p expr answer = rejection p expr answer
rejection_in Json p expr answer = place_members p ++ rejection_members p expr answer
