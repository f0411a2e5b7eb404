use Rattle.std.proofs.Common.{◌≡◌, ◌+◌, ℕ, Bool, sym, ◌∙◌, get_or, arith, subst}
use Rattle.filter_bdd.specs.Answers.{differs}
use Rattle.filter_words.specs.Words.{bit, word_bit, Says}
use Rattle.filter_words.specs.Steps.{chosen, is_above}
use Rattle.filter_words.proofs.Numbers.{above-more, above-start}
use Rattle.filter_words.proofs.Nodes.{grew_more, bit-grown, bit-says, is-bit, is_bit_grown, says-as, same-two, same-three}
use Rattle.filter_words.proofs.Values.{above-says}
use Rattle.filter_words.proofs.word.Words.order.Goals as goal

pub loop-i-init : goal.loop-i-init
loop-i-init c =
    let s = c.args.self.now.diagrams in
    let x = c.args.first in
    let y = c.args.second in
    record {
      grew = c.fixed.ensures.grew;
      says = says-as c.fixed.new.self.diagrams (λ v. c.args.equal) (λ v. is_above (word_bit s v x) (word_bit s v y) c.args.equal 0) c.in_ok-above.above
          (λ v. sym (above-start (word_bit s v x) (word_bit s v y) c.args.equal)) c.in_ok-above.ensures.says;
    }

pub join-requires-clause-first : goal.join-requires-clause-first
join-requires-clause-first c =
    is_bit_grown c.args.self.now.diagrams c.loop-i.self.diagrams (get_or c.args.first.bits c.loop-i.i 0) c.loop-i.invariant.grew (c.requires.first c.loop-i.i (omega arith))

pub join-requires-clause-second : goal.join-requires-clause-second
join-requires-clause-second c =
    is_bit_grown c.args.self.now.diagrams c.loop-i.self.diagrams (get_or c.args.second.bits c.loop-i.i 0) c.loop-i.invariant.grew (c.requires.second c.loop-i.i (omega arith))

pub choice-requires-clause-test : goal.choice-requires-clause-test
choice-requires-clause-test c =
    let l = c.loop-i.self.diagrams in
    is-bit c.join.new.self.diagrams (λ v. differs (bit l v (get_or c.args.first.bits c.loop-i.i 0)) (bit l v (get_or c.args.second.bits c.loop-i.i 0)))
    c.in_ok-unequal.unequal c.in_ok-unequal.ensures.says

pub choice-requires-clause-yes : goal.choice-requires-clause-yes
choice-requires-clause-yes c =
    let s = c.args.self.now.diagrams in
    let l = c.loop-i.self.diagrams in
    let g = c.join.new.self.diagrams in
    is_bit_grown s g (get_or c.args.first.bits c.loop-i.i 0) (grew_more s l g c.loop-i.invariant.grew c.join.ensures.grew) (c.requires.first c.loop-i.i (omega arith))

pub choice-requires-clause-no : goal.choice-requires-clause-no
choice-requires-clause-no c =
    let s = c.args.self.now.diagrams in
    let l = c.loop-i.self.diagrams in
    is_bit_grown l c.join.new.self.diagrams c.loop-i.above c.join.ensures.grew
    (is-bit l (λ v. is_above (word_bit s v c.args.first) (word_bit s v c.args.second) c.args.equal c.loop-i.i) c.loop-i.above c.loop-i.invariant.says)

pub loop-i-preserved : goal.loop-i-preserved
loop-i-preserved c =
    let s = c.args.self.now.diagrams in
    let l = c.loop-i.self.diagrams in
    let g = c.join.new.self.diagrams in
    let n = c.choice.new.self.diagrams in
    let i = c.loop-i.i in
    let x = c.args.first in
    let y = c.args.second in
    let e = c.args.equal in
    let z = c.loop-i.above in
    let u = c.in_ok-unequal.unequal in
    let holds = c.loop-i.invariant in
    let sl = holds.grew in
    let lg = c.join.ensures.grew in
    let px = get_or x.bits i 0 in
    let py = get_or y.bits i 0 in
    let bx = c.requires.first i (omega arith) in
    let by = c.requires.second i (omega arith) in
    let above = λ (v : ℕ → Bool). is_above (word_bit s v x) (word_bit s v y) e i in
    record {
      grew = grew_more s l n sl (grew_more l g n lg c.choice.ensures.grew);
      says = says-as n (λ v. chosen (bit g v u) (bit g v px) (bit g v z)) (λ v. is_above (word_bit s v x) (word_bit s v y) e (i + 1)) c.in_ok-next.next
          (λ v. same-three chosen (bit g v u) (bit g v px) (bit g v z) (differs (bit s v px) (bit s v py)) (bit s v px) (above v)
          (bit-says g (λ w. differs (bit l w px) (bit l w py)) u c.in_ok-unequal.ensures.says v
          ∙ same-two differs (bit l v px) (bit l v py) (bit s v px) (bit s v py) (bit-grown s l px sl bx v) (bit-grown s l py sl by v))
          (bit-grown s g px (grew_more s l g sl lg) bx v)
          (bit-grown l g z lg (is-bit l above z holds.says) v ∙ bit-says l above z holds.says v)
          ∙ sym (above-more (word_bit s v x) (word_bit s v y) e i))
          c.in_ok-next.ensures.says;
    }

pub returns-clause-says : goal.returns-clause-says
returns-clause-says c =
    let s = c.args.self.now.diagrams in
    let l = c.loop-i.self.diagrams in
    let x = c.args.first in
    let y = c.args.second in
    let last : c.loop-i.i ≡ 32 = omega arith in
    above-says s l c.loop-i.above x y c.args.equal
    (subst (λ k. Says l (λ v. is_above (word_bit s v x) (word_bit s v y) c.args.equal k) c.loop-i.above) last c.loop-i.invariant.says)
