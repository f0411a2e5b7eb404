-- The line of an answer, and why a packet was rejected.
use Rattle.std.proofs.Common.{◌≡◌, ℕ, false, List, [], ◌∷◌, ◌++◌, refl, sym, ap, ◌∙◌, append_assoc, Result, Ok, Err, OnOk}
use Rattle.std.specs.Prelude.{if◌then◌else◌}
use Rattle.std.specs.Result.{is_ok}
use Rattle.filter_tree.specs.Trees.{Tree}
use Rattle.filter_meaning.specs.declared.verdict.Verdict.{Verdict}
use Rattle.filter_meaning.specs.Meaning.{Packet, meaning}
use Rattle.filter_explain.specs.Asking.{Question, questions, IsLast}
use Rattle.tap_steps.specs.declared.answer.Answered.{Answered}
use Rattle.tap_steps.specs.declared.playlist.PlacedPacket.{PlacedPacket}
use Rattle.line_text.specs.Strings.{json_string}
use Rattle.line_text.specs.declared.form.LineForm.{LineForm}
use Rattle.tap_text.specs.Reasons.{state_before}
use Rattle.tap_text.specs.Rejections.{decision_members, last_members, question_members, rejection_in, verdict_member}
use Rattle.tap_text.specs.Answers.{Cursor, answer_head, answer_end, answer_line, reason_in, first_line, next_line, first_arrived, arrived_line}

-- the line of the next answer that a listener has left, which is seen as x
pub next_told : {A E : Type 0} (r : Result A E) (form : LineForm) (n l : ℕ) (inside x : Cursor) (a : Answered) (later : List Answered) (old new end : List ℕ) → end ≡ answer_end form → inside ≡ x → inside.answers ≡ a ∷ later →
    old ≡ answer_head form n l ++ reason_in form (state_before a x.held_since x.capacity) a.size a.answer →
    new ≡ (if is_ok r then old ++ end else old) → OnOk r (new ≡ next_line form n l x)
next_told (Err e) form n l inside x a later old new end is seen cut first ends = tt
next_told (Ok y) form n l inside x a later old new end is seen cut first ends =
    ends ∙ ap (λ (t : List ℕ). old ++ t) is ∙ ap (λ (t : List ℕ). t ++ answer_end form) first
    ∙ sym (ap (first_line form n l x.capacity x.held_since) (sym (ap (λ (y : Cursor). y.answers) seen) ∙ cut))

-- the line of an answer to a packet: the reason, and what comes after it
arrived : (form : LineForm) (n l : ℕ) (why behind old mid new : List ℕ) → old ≡ answer_head form n l ++ why → mid ≡ old ++ behind →
    new ≡ mid ++ answer_end form → new ≡ answer_line form n l (why ++ behind)
arrived form n l why behind old mid new first more ends =
    ends ∙ ap (λ (t : List ℕ). t ++ answer_end form)
    (more ∙ ap (λ (t : List ℕ). t ++ behind) first ∙ append_assoc (answer_head form n l) why behind)

-- the same of what a listener has left, which is seen as x
pub next_arrived : {A E : Type 0} (r : Result A E) (form : LineForm) (n : ℕ) (p : PlacedPacket) (l : ℕ) (inside x : Cursor) (a : Answered) (later : List Answered) (old mid new end : List ℕ) → end ≡ answer_end form → inside ≡ x → inside.answers ≡ a ∷ later →
    old ≡ answer_head form n l ++ reason_in form (state_before a x.held_since x.capacity) a.size a.answer →
    mid ≡ old ++ rejection_in form p inside.expr a.answer → new ≡ (if is_ok r then mid ++ end else mid) → OnOk r (new ≡ arrived_line form n p l x)
next_arrived (Err e) form n p l inside x a later old mid new end is seen cut first more ends = tt
next_arrived (Ok y) form n p l inside x a later old mid new end is seen cut first more ends =
    arrived form n l (reason_in form (state_before a x.held_since x.capacity) a.size a.answer) (rejection_in form p x.expr a.answer) old mid new first
    (more ∙ ap (λ (y : Cursor). old ++ rejection_in form p y.expr a.answer) seen) (ends ∙ ap (λ (t : List ℕ). mid ++ t) is)
    ∙ sym (ap (first_arrived form n p l x.expr x.capacity x.held_since) (sym (ap (λ (y : Cursor). y.answers) seen) ∙ cut))

-- ---- As members of an object

last_of : (front : List Question) (q : Question) → last_members (front ++ q ∷ []) ≡ question_members q
last_of [] q = refl
last_of (p ∷ []) q = refl
last_of (p ∷ r ∷ front) q = last_of (r ∷ front) q

regroup : (a b c d : List ℕ) → ((a ++ b) ++ c) ++ d ≡ a ++ (b ++ c ++ d)
regroup a b c d = simp append_assoc

-- the primitive or relation that decides as a string, and the cause
pub asked_so : {A E : Type 0} (r : Result A E) (old first second new cleared name text label part cause : List ℕ) → cleared ≡ [] → name ≡ cleared ++ part → text ≡ name →
    first ≡ old ++ label → second ≡ first ++ json_string text → OnOk r (new ≡ second ++ cause) → OnOk r (new ≡ old ++ (label ++ json_string part ++ cause))
asked_so (Ok x) old first second new cleared name text label part cause none named is begun quoted put =
    put
    ∙ ap (λ (t : List ℕ). t ++ cause)
    (quoted ∙ ap (λ (s : List ℕ). first ++ json_string s) (is ∙ named ∙ ap (λ (t : List ℕ). t ++ part) none) ∙ ap (λ (t : List ℕ). t ++ json_string part) begun)
    ∙ regroup old label (json_string part) cause
asked_so (Err e) old first second new cleared name text label part cause none named is begun quoted put = tt

-- the verdict, and then the last one of those that are asked
pub decided_so : {A E : Type 0} (r : Result A E) (old mid new : List ℕ) (verdict : Verdict) (tree : Tree) (p : Packet) (q : Question) → mid ≡ old ++ verdict_member verdict →
    verdict ≡ meaning tree p → IsLast q (questions false tree p) → OnOk r (new ≡ mid ++ question_members q) → OnOk r (new ≡ old ++ decision_members tree p)
decided_so (Ok x) old mid new verdict tree p q before is last adds =
    adds ∙ ap (λ (t : List ℕ). t ++ question_members q) before
    ∙ append_assoc old (verdict_member verdict) (question_members q)
    ∙ ap (λ (w : Verdict). old ++ (verdict_member w ++ question_members q)) is
    ∙ ap (λ (t : List ℕ). old ++ (verdict_member (meaning tree p) ++ t)) (sym (ap last_members last.1 ∙ last_of last.0 q))
decided_so (Err e) old mid new verdict tree p q before is last adds = tt

-- one text after another
pub one_more : {A E : Type 0} (r : Result A E) (old mid new a b : List ℕ) → mid ≡ old ++ a → OnOk r (new ≡ mid ++ b) → OnOk r (new ≡ old ++ (a ++ b))
one_more (Ok x) old mid new a b first second = second ∙ ap (λ (t : List ℕ). t ++ b) first ∙ append_assoc old a b
one_more (Err e) old mid new a b first second = tt
