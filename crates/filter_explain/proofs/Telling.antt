-- The last one of those that are asked is the one that is named.
use Rattle.std.proofs.Common.{◌≡◌, ℕ, false, List, [], ◌∷◌, ◌++◌, codes, refl, sym, ap, ◌∙◌, append_assoc}
use Rattle.filter_tree.specs.Trees.{Tree}
use Rattle.filter_meaning.specs.declared.verdict.Verdict.{Verdict}
use Rattle.filter_meaning.specs.Meaning.{Packet, meaning}
use Rattle.filter_explain.specs.Asking.{Question, questions, IsLast}
use Rattle.filter_explain.specs.Deciding.{verdict_text, question_text, last_text, decision_text}

last_of : (front : List Question) (q : Question) → last_text (front ++ q ∷ []) ≡ question_text q
last_of [] q = refl
last_of (p ∷ []) q = refl
last_of (p ∷ r ∷ front) q = last_of (r ∷ front) q

last_told : (q : Question) (asked : List Question) → IsLast q asked → question_text q ≡ last_text asked
last_told q asked last = sym (ap last_text last.1 ∙ last_of last.0 q)

pub decided : (old mid new : List ℕ) (verdict : Verdict) (tree : Tree) (p : Packet) (q : Question) → mid ≡ old ++ (verdict_text verdict ++ codes " ") →
    verdict ≡ meaning tree p → IsLast q (questions false tree p) → new ≡ mid ++ question_text q → new ≡ old ++ decision_text tree p
decided old mid new verdict tree p q before is last adds =
    adds ∙ ap (λ (t : List ℕ). t ++ question_text q) before
    ∙ append_assoc old (verdict_text verdict ++ codes " ") (question_text q)
    ∙ ap (λ (w : Verdict). old ++ (verdict_text w ++ codes " " ++ question_text q)) is
    ∙ ap (λ (t : List ℕ). old ++ (verdict_text (meaning tree p) ++ codes " " ++ t)) (last_told q (questions false tree p) last)
