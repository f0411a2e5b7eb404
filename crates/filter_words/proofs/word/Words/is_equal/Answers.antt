use Rattle.std.proofs.Common.{◌≡◌, ◌+◌, ℕ, Bool, true, false, sym, ◌∙◌, get_or, arith, subst}
use Rattle.filter_bdd.specs.Answers.{differs}
use Rattle.filter_words.specs.Words.{bit, word_bit, Says}
use Rattle.filter_words.specs.Steps.{chosen, are_equal}
use Rattle.filter_words.proofs.Numbers.{equal-more, equal-start}
use Rattle.filter_words.proofs.Nodes.{grew_more, bit-grown, bit-says, is-bit, is_bit_grown, says-as, says-grown, same-two, same-three}
use Rattle.filter_words.proofs.Values.{equal-says}
use Rattle.filter_words.proofs.word.Words.is_equal.Goals as goal

pub loop-i-init : goal.loop-i-init
loop-i-init c =
    let s = c.args.self.now.diagrams in
    let g = c.fixed.new.self.diagrams in
    let h = c.fixed-2.new.self.diagrams in
    let x = c.args.first in
    let y = c.args.second in
    record {
      grew = grew_more s g h c.fixed.ensures.grew c.fixed-2.ensures.grew;
      none = says-grown g h (λ v. false) c.in_ok-no.no c.fixed-2.ensures.grew c.in_ok-no.ensures.says;
      says = says-as h (λ v. true) (λ v. are_equal (word_bit s v x) (word_bit s v y) 0) c.in_ok-equal.equal
          (λ v. sym (equal-start (word_bit s v x) (word_bit s v y))) c.in_ok-equal.ensures.says;
    }

pub join-requires-clause-first : goal.join-requires-clause-first
join-requires-clause-first c =
    is_bit_grown c.args.self.now.diagrams c.loop-i.self.diagrams (get_or c.args.first.bits c.loop-i.i 0) c.loop-i.invariant.grew (c.requires.first c.loop-i.i (omega arith))

pub join-requires-clause-second : goal.join-requires-clause-second
join-requires-clause-second c =
    is_bit_grown c.args.self.now.diagrams c.loop-i.self.diagrams (get_or c.args.second.bits c.loop-i.i 0) c.loop-i.invariant.grew (c.requires.second c.loop-i.i (omega arith))

pub choice-requires-clause-test : goal.choice-requires-clause-test
choice-requires-clause-test c =
    let l = c.loop-i.self.diagrams in
    is-bit c.join.new.self.diagrams (λ v. differs (bit l v (get_or c.args.first.bits c.loop-i.i 0)) (bit l v (get_or c.args.second.bits c.loop-i.i 0)))
    c.in_ok-unequal.unequal c.in_ok-unequal.ensures.says

pub choice-requires-clause-yes : goal.choice-requires-clause-yes
choice-requires-clause-yes c =
    let l = c.loop-i.self.diagrams in
    is_bit_grown l c.join.new.self.diagrams c.in_ok-no.no c.join.ensures.grew (is-bit l (λ v. false) c.in_ok-no.no c.loop-i.invariant.none)

pub choice-requires-clause-no : goal.choice-requires-clause-no
choice-requires-clause-no c =
    let s = c.args.self.now.diagrams in
    let l = c.loop-i.self.diagrams in
    is_bit_grown l c.join.new.self.diagrams c.loop-i.equal c.join.ensures.grew
    (is-bit l (λ v. are_equal (word_bit s v c.args.first) (word_bit s v c.args.second) c.loop-i.i) c.loop-i.equal c.loop-i.invariant.says)

pub loop-i-preserved : goal.loop-i-preserved
loop-i-preserved c =
    let s = c.args.self.now.diagrams in
    let l = c.loop-i.self.diagrams in
    let g = c.join.new.self.diagrams in
    let n = c.choice.new.self.diagrams in
    let i = c.loop-i.i in
    let x = c.args.first in
    let y = c.args.second in
    let z = c.loop-i.equal in
    let u = c.in_ok-unequal.unequal in
    let holds = c.loop-i.invariant in
    let sl = holds.grew in
    let lg = c.join.ensures.grew in
    let px = get_or x.bits i 0 in
    let py = get_or y.bits i 0 in
    let bx = c.requires.first i (omega arith) in
    let by = c.requires.second i (omega arith) in
    let none = c.in_ok-no.no in
    let equal = λ (v : ℕ → Bool). are_equal (word_bit s v x) (word_bit s v y) i in
    record {
      grew = grew_more s l n sl (grew_more l g n lg c.choice.ensures.grew);
      none = says-grown l n (λ v. false) none (grew_more l g n lg c.choice.ensures.grew) holds.none;
      says = says-as n (λ v. chosen (bit g v u) (bit g v none) (bit g v z)) (λ v. are_equal (word_bit s v x) (word_bit s v y) (i + 1)) c.in_ok-next.next
          (λ v. same-three chosen (bit g v u) (bit g v none) (bit g v z) (differs (bit s v px) (bit s v py)) false (equal v)
          (bit-says g (λ w. differs (bit l w px) (bit l w py)) u c.in_ok-unequal.ensures.says v
          ∙ same-two differs (bit l v px) (bit l v py) (bit s v px) (bit s v py) (bit-grown s l px sl bx v) (bit-grown s l py sl by v))
          (bit-grown l g none lg (is-bit l (λ w. false) none holds.none) v ∙ bit-says l (λ w. false) none holds.none v)
          (bit-grown l g z lg (is-bit l equal z holds.says) v ∙ bit-says l equal z holds.says v)
          ∙ sym (equal-more (word_bit s v x) (word_bit s v y) i))
          c.in_ok-next.ensures.says;
    }

pub returns-clause-says : goal.returns-clause-says
returns-clause-says c =
    let s = c.args.self.now.diagrams in
    let l = c.loop-i.self.diagrams in
    let x = c.args.first in
    let y = c.args.second in
    let last : c.loop-i.i ≡ 32 = omega arith in
    equal-says s l c.loop-i.equal x y
    (subst (λ k. Says l (λ v. are_equal (word_bit s v x) (word_bit s v y) k) c.loop-i.equal) last c.loop-i.invariant.says)
