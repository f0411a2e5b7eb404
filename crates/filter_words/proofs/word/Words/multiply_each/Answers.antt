use Rattle.std.proofs.Common.{◌≡◌, ◌*◌, ◌%◌, ◌^◌, get_or, arith, subst}
use Rattle.filter_words.specs.Words.{number, word_bit, value, HasValue}
use Rattle.filter_words.proofs.Nodes.{grew_more, is_bit_grown, word_grown, value-as}
use Rattle.filter_words.proofs.Shifts.{product-start}
use Rattle.filter_words.proofs.Values.{product-value, product-calculates}
use Rattle.filter_words.proofs.word.Words.multiply_each.Goals as goal

pub loop-i-init : goal.loop-i-init
loop-i-init c =
    let s = c.args.self.now.diagrams in
    let x = c.args.first in
    let y = c.args.second in
    record {
      grew = c.constant.ensures.grew;
      is = value-as c.constant.new.self.diagrams (λ v. 0) (λ v. (value s v x * number (word_bit s v y) 0) % 2 ^ 32) c.in_ok-product.product
          (λ v. product-start (value s v x) (2 ^ 32) (word_bit s v y)) c.in_ok-product.ensures.value;
    }

pub add_part-requires-clause-sum : goal.add_part-requires-clause-sum
add_part-requires-clause-sum c = c.loop-i.invariant.is.inside

pub add_part-requires-clause-word : goal.add_part-requires-clause-word
add_part-requires-clause-word c = word_grown c.args.self.now.diagrams c.loop-i.self.diagrams c.args.first c.loop-i.invariant.grew c.requires.first

pub add_part-requires-clause-test : goal.add_part-requires-clause-test
add_part-requires-clause-test c =
    is_bit_grown c.args.self.now.diagrams c.loop-i.self.diagrams (get_or c.args.second.bits c.loop-i.i 0) c.loop-i.invariant.grew (c.requires.second c.loop-i.i (omega arith))

pub loop-i-preserved : goal.loop-i-preserved
loop-i-preserved c =
    let s = c.args.self.now.diagrams in
    let l = c.loop-i.self.diagrams in
    let n = c.add_part.new.self.diagrams in
    let holds = c.loop-i.invariant in
    record {
      grew = grew_more s l n holds.grew c.add_part.ensures.grew;
      is = product-value s l n c.args.first c.args.second c.loop-i.product c.in_ok-next.next c.loop-i.i holds.grew c.requires.first c.requires.second (omega arith)
          holds.is c.in_ok-next.ensures.value;
    }

pub returns-clause-calculates : goal.returns-clause-calculates
returns-clause-calculates c =
    let s = c.args.self.now.diagrams in
    let x = c.args.first in
    let y = c.args.second in
    let last : c.loop-i.i ≡ 32 = omega arith in
    product-calculates s c.loop-i.self.diagrams x y c.loop-i.product
    (subst (λ k. HasValue c.loop-i.self.diagrams (λ v. (value s v x * number (word_bit s v y) k) % 2 ^ 32) c.loop-i.product) last c.loop-i.invariant.is)
