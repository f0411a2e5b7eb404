-- Packets that are counted one by one.
use Rattle.std.proofs.Common.{◌≡◌, ℕ, ◌+◌, ◌≤◌, Bool, List, [], ◌∷◌, ◌++◌, true, false, length, length-append, filter, refl, ap, sym, ◌∙◌, arith}
use Rattle.std.proofs.lemmas.List.Elements.{filter-append}
use Rattle.savefile.specs.declared.packet.Packet.{Packet}
use Rattle.filter_meaning.specs.declared.verdict.Verdict.{Verdict}
use Rattle.filter_meaning.specs.declared.verdict.Verdict.TheVariants.{Yes, No, Abort}
use Rattle.cli_answers.specs.declared.counts.VerdictCounts.{VerdictCounts}
use Rattle.cli_answers.specs.Answers.{Answer, answer}
use Rattle.cli_answers.specs.Verdicts.{is_yes, is_no, is_abort}
use Rattle.cli_watch.specs.Frames.{is_unseen}
use Rattle.cli_answers.specs.Counts.{Fit, count_of, counted, more_if, unseen_of, AreCounts}

-- of a kind, or not
pub one-more : {X : Type 0} (f : X → Bool) (xs : List X) (x : X) (is : Bool) → f x ≡ is → length (filter f (xs ++ x ∷ [])) ≡ more_if is (length (filter f xs))
one-more f xs x true is =
    ap length (filter-append f xs (x ∷ [])) ∙ length-append (filter f xs) (filter f (x ∷ [])) ∙ rw is refl
one-more f xs x false is =
    ap length (filter-append f xs (x ∷ [])) ∙ length-append (filter f xs) (filter f (x ∷ [])) ∙ rw is omega arith

unseen-by : (answers : List Answer) (a : Answer) (n : ℕ) → n ≡ unseen_of answers → more_if (is_unseen a.packet.bytes) n ≡ unseen_of (answers ++ a ∷ [])
unseen-by answers a n is =
    ap (more_if (is_unseen a.packet.bytes)) is ∙ sym (one-more (λ (b : Answer). is_unseen b.packet.bytes) answers a (is_unseen a.packet.bytes) refl)

count-last : (is : Verdict → Bool) (answers : List Answer) (a : Answer) → count_of is (answers ++ a ∷ []) ≡ count_of is answers + count_of is (a ∷ [])
count-last is answers a =
    ap length (filter-append (λ (b : Answer). is b.verdict) answers (a ∷ []))
    ∙ length-append (filter (λ (b : Answer). is b.verdict) answers) (filter (λ (b : Answer). is b.verdict) (a ∷ []))

pub counts-by : (v : Verdict) (answers : List Answer) (p : Packet) (reason : List ℕ) (c : VerdictCounts) → AreCounts c answers → AreCounts (counted v (is_unseen p.bytes) c) (answers ++ answer p v reason ∷ [])
counts-by Yes answers p reason c are = record {
  packets = ap (λ n. n + 1) are.packets ∙ sym (length-append answers (answer p Yes reason ∷ []));
  yes = ap (λ n. n + 1) are.yes ∙ sym (count-last is_yes answers (answer p Yes reason));
  no = are.no ∙ omega (arith, count-last is_no answers (answer p Yes reason));
  abort = are.abort ∙ omega (arith, count-last is_abort answers (answer p Yes reason));
  unseen = unseen-by answers (answer p Yes reason) c.unseen are.unseen;
}
counts-by No answers p reason c are = record {
  packets = ap (λ n. n + 1) are.packets ∙ sym (length-append answers (answer p No reason ∷ []));
  yes = are.yes ∙ omega (arith, count-last is_yes answers (answer p No reason));
  no = ap (λ n. n + 1) are.no ∙ sym (count-last is_no answers (answer p No reason));
  abort = are.abort ∙ omega (arith, count-last is_abort answers (answer p No reason));
  unseen = unseen-by answers (answer p No reason) c.unseen are.unseen;
}
counts-by Abort answers p reason c are = record {
  packets = ap (λ n. n + 1) are.packets ∙ sym (length-append answers (answer p Abort reason ∷ []));
  yes = are.yes ∙ omega (arith, count-last is_yes answers (answer p Abort reason));
  no = are.no ∙ omega (arith, count-last is_no answers (answer p Abort reason));
  abort = ap (λ n. n + 1) are.abort ∙ sym (count-last is_abort answers (answer p Abort reason));
  unseen = unseen-by answers (answer p Abort reason) c.unseen are.unseen;
}

-- no count is above that of the packets
pub counted-packets : (v : Verdict) (u : Bool) (c : VerdictCounts) (before given : ℕ) → c.packets ≤ before → given ≡ before + 1 → (counted v u c).packets ≤ given
counted-packets Yes u c before given few more = omega (arith, few, more)
counted-packets No u c before given few more = omega (arith, few, more)
counted-packets Abort u c before given few more = omega (arith, few, more)

pub counted-yes : (v : Verdict) (u : Bool) (c : VerdictCounts) → c.yes ≤ c.packets → (counted v u c).yes ≤ (counted v u c).packets
counted-yes Yes u c few = omega (arith, few)
counted-yes No u c few = omega (arith, few)
counted-yes Abort u c few = omega (arith, few)

pub counted-no : (v : Verdict) (u : Bool) (c : VerdictCounts) → c.no ≤ c.packets → (counted v u c).no ≤ (counted v u c).packets
counted-no Yes u c few = omega (arith, few)
counted-no No u c few = omega (arith, few)
counted-no Abort u c few = omega (arith, few)

pub counted-abort : (v : Verdict) (u : Bool) (c : VerdictCounts) → c.abort ≤ c.packets → (counted v u c).abort ≤ (counted v u c).packets
counted-abort Yes u c few = omega (arith, few)
counted-abort No u c few = omega (arith, few)
counted-abort Abort u c few = omega (arith, few)

pub more-if : (u : Bool) (n packets : ℕ) → n ≤ packets → more_if u n ≤ packets + 1
more-if true n packets few = omega (arith, few)
more-if false n packets few = omega (arith, few)

pub counted-unseen : (v : Verdict) (u : Bool) (c : VerdictCounts) → c.unseen ≤ c.packets → (counted v u c).unseen ≤ (counted v u c).packets
counted-unseen Yes u c few = more-if u c.unseen c.packets few
counted-unseen No u c few = more-if u c.unseen c.packets few
counted-unseen Abort u c few = more-if u c.unseen c.packets few

pub fit-more : (v : Verdict) (u : Bool) (c : VerdictCounts) (n : ℕ) → Fit c n → Fit (counted v u c) (n + 1)
fit-more v u c n fit = record {
  packets = counted-packets v u c n (n + 1) fit.packets refl;
  yes = counted-yes v u c fit.yes;
  no = counted-no v u c fit.no;
  abort = counted-abort v u c fit.abort;
  unseen = counted-unseen v u c fit.unseen;
}
