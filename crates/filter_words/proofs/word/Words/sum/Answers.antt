use Rattle.std.proofs.Common.{◌<◌, ◌+◌, ℕ, Bool, refl, sym, ◌∙◌, get_or, length, length-set, arith}
use Rattle.filter_words.specs.declared.word.Word.{Word}
use Rattle.filter_words.specs.Words.{bit, word_bit}
use Rattle.filter_words.specs.Steps.{sum_bit, carry_bit, carries}
use Rattle.filter_words.proofs.Numbers.{carries-more, carries-none}
use Rattle.filter_words.proofs.Nodes.{grew_more, bit-grown, bit-says, is-bit, is_bit_grown, says-as, bits-more, same-three}
use Rattle.filter_words.proofs.Values.{sum-has-value}
use Rattle.filter_words.proofs.word.Words.sum.Goals as goal

pub loop-i-init : goal.loop-i-init
loop-i-init c =
    let s = c.args.self.now.diagrams in
    let l = c.fixed.new.self.diagrams in
    let x = c.args.first in
    let y = c.args.second in
    record {
      grew = c.fixed.ensures.grew;
      long = refl;
      says = λ k less. absurd (omega arith);
      carried = says-as l (λ v. c.args.carry) (λ v. carries (word_bit s v x) (word_bit s v y) c.args.carry 0) c.in_ok-carried.carried
          (λ v. sym (carries-none (word_bit s v x) (word_bit s v y) c.args.carry)) c.in_ok-carried.ensures.says;
    }

pub full_add-requires-clause-first : goal.full_add-requires-clause-first
full_add-requires-clause-first c =
    is_bit_grown c.args.self.now.diagrams c.loop-i.self.diagrams (get_or c.args.first.bits c.loop-i.i 0) c.loop-i.invariant.grew (c.requires.first c.loop-i.i (omega arith))

pub full_add-requires-clause-second : goal.full_add-requires-clause-second
full_add-requires-clause-second c =
    is_bit_grown c.args.self.now.diagrams c.loop-i.self.diagrams (get_or c.args.second.bits c.loop-i.i 0) c.loop-i.invariant.grew (c.requires.second c.loop-i.i (omega arith))

pub full_add-requires-clause-carry : goal.full_add-requires-clause-carry
full_add-requires-clause-carry c =
    let s = c.args.self.now.diagrams in
    is-bit c.loop-i.self.diagrams (λ v. carries (word_bit s v c.args.first) (word_bit s v c.args.second) c.args.carry c.loop-i.i) c.loop-i.carried c.loop-i.invariant.carried

pub loop-i-preserved : goal.loop-i-preserved
loop-i-preserved c =
    let s = c.args.self.now.diagrams in
    let l = c.loop-i.self.diagrams in
    let n = c.full_add.new.self.diagrams in
    let i = c.loop-i.i in
    let x = c.args.first in
    let y = c.args.second in
    let d = c.args.carry in
    let z = c.loop-i.carried in
    let full = c.in_ok-full.full in
    let holds = c.loop-i.invariant in
    let within : i < length c.loop-i.bits = omega arith in
    let px = get_or x.bits i 0 in
    let py = get_or y.bits i 0 in
    let told = c.in_ok-full.ensures.sum in
    let bx = λ (v : ℕ → Bool). bit-grown s l px holds.grew (c.requires.first i (omega arith)) v in
    let by = λ (v : ℕ → Bool). bit-grown s l py holds.grew (c.requires.second i (omega arith)) v in
    let bz = λ (v : ℕ → Bool). bit-says l (λ u. carries (word_bit s u x) (word_bit s u y) d i) z holds.carried v in
    record {
      grew = grew_more s l n holds.grew c.full_add.ensures.grew;
      long = length-set c.loop-i.bits i full.sum ∙ holds.long;
      says = bits-more l n (λ v k. sum_bit (word_bit s v x k) (word_bit s v y k) (carries (word_bit s v x) (word_bit s v y) d k)) c.loop-i.bits i full.sum
          c.full_add.ensures.grew within holds.says
          (says-as n (λ v. sum_bit (bit l v px) (bit l v py) (bit l v z)) (λ v. sum_bit (bit s v px) (bit s v py) (carries (word_bit s v x) (word_bit s v y) d i)) full.sum
          (λ v. same-three sum_bit (bit l v px) (bit l v py) (bit l v z) (bit s v px) (bit s v py) (carries (word_bit s v x) (word_bit s v y) d i) (bx v) (by v) (bz v))
          told.sum);
      carried = says-as n (λ v. carry_bit (bit l v px) (bit l v py) (bit l v z)) (λ v. carries (word_bit s v x) (word_bit s v y) d (i + 1)) full.carry
          (λ v. same-three carry_bit (bit l v px) (bit l v py) (bit l v z) (bit s v px) (bit s v py) (carries (word_bit s v x) (word_bit s v y) d i) (bx v) (by v) (bz v)
          ∙ sym (carries-more (word_bit s v x) (word_bit s v y) d i))
          told.carry_out;
    }

pub returns-clause-value : goal.returns-clause-value
returns-clause-value c =
    let w : Word = record { bits = c.loop-i.bits } in
    sum-has-value c.args.self.now.diagrams c.loop-i.self.diagrams c.args.first c.args.second w c.args.carry (λ k less. c.loop-i.invariant.says k (omega arith))
