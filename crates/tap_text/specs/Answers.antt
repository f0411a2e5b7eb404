-- What `steps -v` prints before the reports: a line for each step, and below it one for each listener that the step reaches.
use Rattle.std.specs.Prelude.{◌≡◌, ℕ, zero, suc, Bool, true, false, List, [], ◌∷◌, ◌++◌, Option, Some, None, map, drop, if◌then◌else◌, codes}
use Rattle.std.specs.List.{slice_get}
use Rattle.std.specs.Fmt.{decimal}
use Rattle.filter_tree.specs.declared.tree.Expr.{Expr}
use Rattle.listener.specs.declared.answer.Fed.TheVariants.{Rotated, Held}
use Rattle.tap_steps.specs.declared.answer.Answer.{Answer}
use Rattle.tap_steps.specs.declared.answer.Answer.TheVariants.{Arrived, Flushed}
use Rattle.tap_steps.specs.declared.answer.Answered.{Answered}
use Rattle.tap_steps.specs.declared.filters.Spec.{Spec}
use Rattle.tap_steps.specs.declared.playlist.PlacedPacket.{PlacedPacket}
use Rattle.tap_steps.specs.declared.step.Step.{Step}
use Rattle.tap_steps.specs.declared.step.Step.TheVariants.{Arrive, Flush, Read, Close}
use Rattle.tap.specs.Filters.{AreExpressionsOf}
use Rattle.line_text.specs.declared.form.LineForm.{LineForm}
use Rattle.line_text.specs.declared.form.LineForm.TheVariants.{Text, Json}
use Rattle.line_text.specs.Texts.{end_of_line}
use Rattle.line_text.specs.Texts.{numbered}
use Rattle.line_text.specs.Time.{nine_digits}
use Rattle.tap_text.specs.declared.reasons.ListenerState.{ListenerState}
use Rattle.tap_text.specs.Reasons.{state_before, reason}
use Rattle.tap_text.specs.Members.{reason_members}
use Rattle.tap_text.specs.Rejections.{rejection_in}

-- What is left of a listener's answers after some steps: its expression, if its filter is one, the bytes that its store and its hold
-- each have room for, the step that made the store the hold last, from 1, and the answers to later steps.
pub record Cursor : Type 0 where
  pub expr : Option Expr
  pub capacity : ℕ
  pub held_since : ℕ
  pub answers : List Answered

abbrev pub cursor : Option Expr → ℕ → ℕ → List Answered → Cursor
cursor expr capacity held_since answers = record { expr = expr; capacity = capacity; held_since = held_since; answers = answers }

-- the answer says that the store became the hold
abbrev pub fills_hold : Answer → Bool
fills_hold (Arrived Rotated) = true
fills_hold (Arrived Held) = true
fills_hold (Flushed full) = full
fills_hold other = false

-- Of the n-th step, what comes before the answer of the l-th listener: `  listener L `, or `{"step":N,"listener":L,`
abbrev pub answer_head : LineForm → ℕ → ℕ → List ℕ
answer_head Text n l = codes "  listener " ++ decimal l ++ codes " "
answer_head Json n l = codes "{\"step\":" ++ decimal n ++ codes ",\"listener\":" ++ decimal l ++ codes ","

-- and what comes after it
abbrev pub answer_end : LineForm → List ℕ
answer_end Text = end_of_line
answer_end Json = codes "}" ++ end_of_line

-- the answer, and why it was given
abbrev pub reason_in : LineForm → ListenerState → ℕ → Answer → List ℕ
reason_in Text before size answer = reason before size answer
reason_in Json before size answer = reason_members before size answer

abbrev pub answer_line : LineForm → ℕ → ℕ → List ℕ → List ℕ
answer_line form n l text = answer_head form n l ++ text ++ answer_end form

-- the line of the l-th listener, by the first of these answers, which is that to the n-th step
abbrev pub first_line : LineForm → ℕ → ℕ → ℕ → ℕ → List Answered → List ℕ
first_line form n l capacity held_since [] = []
first_line form n l capacity held_since (a ∷ later) = answer_line form n l (reason_in form (state_before a held_since capacity) a.size a.answer)

abbrev pub next_line : LineForm → ℕ → ℕ → Cursor → List ℕ
next_line form n l x = first_line form n l x.capacity x.held_since x.answers

-- the line of the answer to this packet: after it follows why an expression rejects the packet
abbrev pub first_arrived : LineForm → ℕ → PlacedPacket → ℕ → Option Expr → ℕ → ℕ → List Answered → List ℕ
first_arrived form n p l expr capacity held_since [] = []
first_arrived form n p l expr capacity held_since (a ∷ later) =
    answer_line form n l (reason_in form (state_before a held_since capacity) a.size a.answer ++ rejection_in form p expr a.answer)

abbrev pub arrived_line : LineForm → ℕ → PlacedPacket → ℕ → Cursor → List ℕ
arrived_line form n p l x = first_arrived form n p l x.expr x.capacity x.held_since x.answers

-- the step that made the store the hold last, after the first of these answers, which is that to the n-th step
abbrev pub held_after : ℕ → ℕ → List Answered → ℕ
held_after n held_since [] = held_since
held_after n held_since (a ∷ later) = if fills_hold a.answer then n else held_since

abbrev pub advanced : ℕ → Cursor → Cursor
advanced n x = cursor x.expr x.capacity (held_after n x.held_since x.answers) (drop 1 x.answers)

-- of several listeners, one that a step reaches
abbrev pub one_advanced : ℕ → ℕ → List Cursor → List Cursor
one_advanced n l [] = []
one_advanced n zero (x ∷ xs) = advanced n x ∷ xs
one_advanced n (suc l) (x ∷ xs) = x ∷ one_advanced n l xs

abbrev pub line_of : LineForm → ℕ → ℕ → Option Cursor → List ℕ
line_of form n l None = []
line_of form n l (Some x) = next_line form n l x

abbrev pub line_at : LineForm → ℕ → ℕ → List Cursor → List ℕ
line_at form n l xs = line_of form n l (slice_get xs l)

-- `capture C place P time S.NNNNNNNNN len W`
unfoldable pub placed_text : PlacedPacket → List ℕ
placed_text p = codes "capture " ++ decimal p.capture ++ codes " place " ++ decimal p.place
    ++ codes " time " ++ decimal p.packet.sec ++ codes "." ++ nine_digits p.packet.nanos ++ codes " len " ++ decimal p.packet.len

-- `"capture":C,"place":P,"seconds":S,"nanoseconds":N,"length":W`
unfoldable pub placed_members : PlacedPacket → List ℕ
placed_members p = codes "\"capture\":" ++ decimal p.capture ++ codes ",\"place\":" ++ decimal p.place
    ++ codes ",\"seconds\":" ++ decimal p.packet.sec ++ codes ",\"nanoseconds\":" ++ decimal p.packet.nanos
    ++ codes ",\"length\":" ++ decimal p.packet.len

-- `step N arrive PACKET`, or `{"step":N,"action":"arrive",PACKET}`
abbrev pub arrival_line : LineForm → ℕ → PlacedPacket → List ℕ
arrival_line Text n p = codes "step " ++ decimal n ++ codes " arrive " ++ placed_text p ++ end_of_line
arrival_line Json n p = codes "{\"step\":" ++ decimal n ++ codes ",\"action\":\"arrive\"," ++ placed_members p ++ codes "}" ++ end_of_line

-- `step N arrive, no packet is left`, or `{"step":N,"action":"arrive"}`
abbrev pub no_packet_line : LineForm → ℕ → List ℕ
no_packet_line Text n = codes "step " ++ decimal n ++ codes " arrive, no packet is left" ++ end_of_line
no_packet_line Json n = codes "{\"step\":" ++ decimal n ++ codes ",\"action\":\"arrive\"}" ++ end_of_line

-- `step N WORD L`, or `{"step":N,"action":"WORD","listener":L}`
abbrev pub own_line : LineForm → ℕ → List ℕ → ℕ → List ℕ
own_line Text n word l = codes "step " ++ decimal n ++ codes " " ++ word ++ codes " " ++ decimal l ++ end_of_line
own_line Json n word l = codes "{\"step\":" ++ decimal n ++ codes ",\"action\":\"" ++ word ++ codes "\",\"listener\":" ++ decimal l ++ codes "}" ++ end_of_line

-- the n-th step, and what the listeners that it reaches answer: an arrival reaches all, where a packet is left, which it takes
abbrev pub step_text : LineForm → ℕ → Step → List PlacedPacket → List Cursor → List ℕ
step_text form n Arrive [] xs = no_packet_line form n
step_text form n Arrive (p ∷ packets) xs = arrival_line form n p ++ numbered (arrived_line form n p) 0 xs
step_text form n (Flush l) packets xs = own_line form n (codes "flush") l ++ line_at form n l xs
step_text form n (Read l) packets xs = own_line form n (codes "read") l ++ line_at form n l xs
step_text form n (Close l) packets xs = own_line form n (codes "close") l ++ line_at form n l xs

-- the packets that are left after a step
abbrev pub packets_after : Step → List PlacedPacket → List PlacedPacket
packets_after Arrive packets = drop 1 packets
packets_after (Flush l) packets = packets
packets_after (Read l) packets = packets
packets_after (Close l) packets = packets

-- what is left of the answers after the n-th step
abbrev pub cursors_after : ℕ → Step → List PlacedPacket → List Cursor → List Cursor
cursors_after n Arrive [] xs = xs
cursors_after n Arrive (p ∷ packets) xs = map (advanced n) xs
cursors_after n (Flush l) packets xs = one_advanced n l xs
cursors_after n (Read l) packets xs = one_advanced n l xs
cursors_after n (Close l) packets xs = one_advanced n l xs

-- these steps, of which the first is the n-th
abbrev pub answers_from : LineForm → ℕ → List Step → List PlacedPacket → List Cursor → List ℕ
answers_from form n [] packets xs = []
answers_from form n (step ∷ steps) packets xs =
    step_text form n step packets xs ++ answers_from form (suc n) steps (packets_after step packets) (cursors_after n step packets xs)

-- The cursors of all listeners before the first step: with each listener's expression, its capacity and all of its answers.
abbrev pub cursors_of : List Spec → List (Option Expr) → List (List Answered) → List Cursor
cursors_of (spec ∷ specs) (expr ∷ expressions) (own ∷ answers) = cursor expr spec.capacity 0 own ∷ cursors_of specs expressions answers
cursors_of specs expressions answers = []

-- What is printed of the answers to all steps, which are counted from 1, as the lines of SCRIPT.
pub record ArePrintedAnswers (form : LineForm) (specs : List Spec) (steps : List Step) (playlist : List PlacedPacket) (answers : List (List Answered)) (text : List ℕ) : Type 0 where
  pub expressions : List (Option Expr)
  pub read : AreExpressionsOf specs expressions
  pub is : text ≡ answers_from form 1 steps playlist (cursors_of specs expressions answers)
