use Rattle.std.proofs.Common.{ℕ, Bool, ◌∙◌}
use Rattle.filter_bdd.specs.Answers.{differs}
use Rattle.filter_words.specs.Words.{bit}
use Rattle.filter_words.specs.Steps.{sum_bit, carry_bit, chosen}
use Rattle.filter_words.proofs.Nodes.{grew_more, bit-grown, bit-says, is-bit, is_bit_grown, says-as, says-grown, same-two, same-three}
use Rattle.filter_words.proofs.word.Words.full_add.Goals as goal

pub join-requires-2-clause-first : goal.join-requires-2-clause-first
join-requires-2-clause-first c = is_bit_grown c.args.self.now.diagrams c.join.new.self.diagrams c.args.carry c.join.ensures.grew c.requires.carry

pub join-requires-2-clause-second : goal.join-requires-2-clause-second
join-requires-2-clause-second c =
    let s = c.args.self.now.diagrams in
    is-bit c.join.new.self.diagrams (λ v. differs (bit s v c.args.first) (bit s v c.args.second)) c.in_ok-unequal.unequal c.in_ok-unequal.ensures.says

pub choice-requires-clause-test : goal.choice-requires-clause-test
choice-requires-clause-test c =
    let s = c.args.self.now.diagrams in
    is_bit_grown c.join.new.self.diagrams c.join-2.new.self.diagrams c.in_ok-unequal.unequal c.join-2.ensures.grew
    (is-bit c.join.new.self.diagrams (λ v. differs (bit s v c.args.first) (bit s v c.args.second)) c.in_ok-unequal.unequal c.in_ok-unequal.ensures.says)

pub choice-requires-clause-yes : goal.choice-requires-clause-yes
choice-requires-clause-yes c =
    let s = c.args.self.now.diagrams in
    let g = c.join.new.self.diagrams in
    let h = c.join-2.new.self.diagrams in
    is_bit_grown s h c.args.carry (grew_more s g h c.join.ensures.grew c.join-2.ensures.grew) c.requires.carry

pub choice-requires-clause-no : goal.choice-requires-clause-no
choice-requires-clause-no c =
    let s = c.args.self.now.diagrams in
    let g = c.join.new.self.diagrams in
    let h = c.join-2.new.self.diagrams in
    is_bit_grown s h c.args.first (grew_more s g h c.join.ensures.grew c.join-2.ensures.grew) c.requires.first

pub returns-clause-sum : goal.returns-clause-sum
returns-clause-sum c =
    let s = c.args.self.now.diagrams in
    let g = c.join.new.self.diagrams in
    let h = c.join-2.new.self.diagrams in
    let k = c.choice.new.self.diagrams in
    let x = c.args.first in
    let y = c.args.second in
    let z = c.args.carry in
    let u = c.in_ok-unequal.unequal in
    let sg = c.join.ensures.grew in
    let gh = c.join-2.ensures.grew in
    let sh = grew_more s g h sg gh in
    let told = c.in_ok-unequal.ensures.says in
    let apart = λ (v : ℕ → Bool). differs (bit s v x) (bit s v y) in
    let first = says-as h (λ v. differs (bit g v z) (bit g v u)) (λ v. sum_bit (bit s v x) (bit s v y) (bit s v z)) c.in_ok-sum.sum
    (λ v. same-two differs (bit g v z) (bit g v u) (bit s v z) (apart v) (bit-grown s g z sg c.requires.carry v) (bit-says g apart u told v)) c.in_ok-sum.ensures.says in
    record {
      sum = says-grown h k (λ v. sum_bit (bit s v x) (bit s v y) (bit s v z)) c.in_ok-sum.sum c.choice.ensures.grew first;
      carry_out = says-as k (λ v. chosen (bit h v u) (bit h v z) (bit h v x)) (λ v. carry_bit (bit s v x) (bit s v y) (bit s v z)) c.in_ok-next.next
          (λ v. same-three chosen (bit h v u) (bit h v z) (bit h v x) (apart v) (bit s v z) (bit s v x)
          (bit-grown g h u gh (is-bit g apart u told) v ∙ bit-says g apart u told v)
          (bit-grown s h z sh c.requires.carry v) (bit-grown s h x sh c.requires.first v))
          c.in_ok-next.ensures.says;
    }
