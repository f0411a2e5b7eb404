-- The last question decides.
use Rattle.std.proofs.Common.{◌≡◌, Bool, true, false, not, List, [], ◌∷◌, ◌++◌, refl, sym, ap, ◌∙◌, append_assoc, append-nil}
use Rattle.filter_tree.specs.Trees.{Tree}
use Rattle.filter_tree.specs.Trees as trees
use Rattle.filter_meaning.specs.declared.verdict.Verdict.{Verdict}
use Rattle.filter_meaning.specs.declared.verdict.Verdict.TheVariants.{Yes, No, Abort}
use Rattle.filter_meaning.specs.Meaning.{Packet, and_then, or_else, opposite, meaning}
use Rattle.filter_explain.specs.Asking.{Question, question, where_yes, where_no, questions, turned, IsLast, LastDecides}
use Rattle.filter_explain.specs.Laws.{TheLastDecides}

-- the last of two lists is that of the second
behind : (asked others : List Question) (v : Verdict) → LastDecides others v → LastDecides (asked ++ others) v
behind asked others v last = record {
  front = asked ++ last.front;
  last = last.last;
  order = ap (λ (l : List Question). asked ++ l) last.order ∙ sym (append_assoc asked last.front (last.last ∷ []));
  decides = last.decides;
}

-- and that of the first, where the second is empty
alone : (asked : List Question) (v : Verdict) → LastDecides asked v → LastDecides (asked ++ []) v
alone asked v last = record {
  front = last.front;
  last = last.last;
  order = append-nil asked ∙ last.order;
  decides = last.decides;
}

conjunction : (negated : Bool) (v w : Verdict) (asked others : List Question) → LastDecides asked (turned negated v) → LastDecides others (turned negated w) → LastDecides (asked ++ where_yes v others) (turned negated (and_then v w))
conjunction negated Yes w asked others first second = behind asked others (turned negated w) second
conjunction negated No w asked others first second = alone asked (turned negated No) first
conjunction negated Abort w asked others first second = alone asked (turned negated Abort) first

disjunction : (negated : Bool) (v w : Verdict) (asked others : List Question) → LastDecides asked (turned negated v) → LastDecides others (turned negated w) → LastDecides (asked ++ where_no v others) (turned negated (or_else v w))
disjunction negated Yes w asked others first second = alone asked (turned negated Yes) first
disjunction negated No w asked others first second = behind asked others (turned negated w) second
disjunction negated Abort w asked others first second = alone asked (turned negated Abort) first

-- one more `not` turns once more
pub turned-not : (negated : Bool) (v : Verdict) → turned (not negated) v ≡ turned negated (opposite v)
turned-not true Yes = refl
turned-not true No = refl
turned-not true Abort = refl
turned-not false v = refl

single : (negated : Bool) (t : Tree) (p : Packet) → LastDecides (question negated t p ∷ []) (turned negated (meaning t p))
single negated t p = record { front = []; last = question negated t p; order = refl; decides = refl }

pub last-decides : TheLastDecides
last-decides negated trees.everything p = single negated trees.everything p
last-decides negated (trees.test q) p = single negated (trees.test q) p
last-decides negated (trees.relation c v w) p = single negated (trees.relation c v w) p
last-decides negated (trees.negation t) p =
    let inner = last-decides (not negated) t p in
    record { front = inner.front; last = inner.last; order = inner.order; decides = sym (turned-not negated (meaning t p)) ∙ inner.decides }
last-decides negated (trees.both t u) p =
    conjunction negated (meaning t p) (meaning u p) (questions negated t p) (questions negated u p) (last-decides negated t p) (last-decides negated u p)
last-decides negated (trees.either t u) p =
    disjunction negated (meaning t p) (meaning u p) (questions negated t p) (questions negated u p) (last-decides negated t p) (last-decides negated u p)

-- ---- The last of what is asked, part by part

-- of a part alone
pub last_single : (negated : Bool) (t : Tree) (p : Packet) (q : Question) → q ≡ question negated t p → IsLast q (question negated t p ∷ [])
last_single negated t p q is = ([], ap (λ (x : Question). x ∷ []) (sym is))

-- what the second operand ends with is the end of both
pub last_behind : (asked others : List Question) (q : Question) → IsLast q others → IsLast q (asked ++ others)
last_behind asked others q (front, is) = (asked ++ front, ap (λ (l : List Question). asked ++ l) is ∙ sym (append_assoc asked front (q ∷ [])))

-- and where the second is not asked, the end of the first
pub last_alone : (asked : List Question) (q : Question) → IsLast q asked → IsLast q (asked ++ [])
last_alone asked q (front, is) = (front, append-nil asked ∙ is)

-- of `and` after a Yes, and of `or` after a No
pub last_yes : (asked others : List Question) (v : Verdict) (q : Question) → v ≡ Yes → IsLast q others → IsLast q (asked ++ where_yes v others)
last_yes asked others v q is last = rw is (last_behind asked others q last)

pub last_no : (asked others : List Question) (v : Verdict) (q : Question) → v ≡ No → IsLast q others → IsLast q (asked ++ where_no v others)
last_no asked others v q is last = rw is (last_behind asked others q last)
