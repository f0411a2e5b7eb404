use Rattle.std.proofs.Common.{◌≡◌, ◌-◌, refl, get_or, arith, subst}
use Rattle.filter_words.specs.declared.quotient.Division.{Division}
use Rattle.filter_words.specs.Words.{word_bit}
use Rattle.filter_words.specs.Division.{HasDivided}
use Rattle.filter_words.proofs.Nodes.{grew_more, is_bit_grown, word_grown}
use Rattle.filter_words.proofs.Quotients.{highest}
use Rattle.filter_words.proofs.Divisions.{division-none, division-more, division-all}
use Rattle.filter_words.proofs.word.Words.divide_all.Goals as goal

pub loop-i-init : goal.loop-i-init
loop-i-init c =
    let zero' = c.in_ok-zero.zero in
    let division : Division = record { quotient = zero'; rest = zero' } in
    record {
      grew = c.constant.ensures.grew;
      divided = division-none c.args.self.now.diagrams c.constant.new.self.diagrams c.args.dividend c.args.divisor zero' division refl refl c.in_ok-zero.ensures.value;
    }

pub divide_bit-requires-clause-quotient : goal.divide_bit-requires-clause-quotient
divide_bit-requires-clause-quotient c = c.loop-i.invariant.divided.quotient

pub divide_bit-requires-clause-rest : goal.divide_bit-requires-clause-rest
divide_bit-requires-clause-rest c = c.loop-i.invariant.divided.rest

pub divide_bit-requires-clause-next : goal.divide_bit-requires-clause-next
divide_bit-requires-clause-next c =
    is_bit_grown c.args.self.now.diagrams c.loop-i.self.diagrams (get_or c.args.dividend.bits (31 - c.loop-i.i) 0) c.loop-i.invariant.grew
    (c.requires.dividend (31 - c.loop-i.i) (omega arith))

pub divide_bit-requires-clause-divisor : goal.divide_bit-requires-clause-divisor
divide_bit-requires-clause-divisor c = word_grown c.args.self.now.diagrams c.loop-i.self.diagrams c.args.divisor c.loop-i.invariant.grew c.requires.divisor

pub loop-i-preserved : goal.loop-i-preserved
loop-i-preserved c =
    let s = c.args.self.now.diagrams in
    let l = c.loop-i.self.diagrams in
    let n = c.divide_bit.new.self.diagrams in
    let holds = c.loop-i.invariant in
    record {
      grew = grew_more s l n holds.grew c.divide_bit.ensures.grew;
      divided = division-more s l n c.args.dividend c.args.divisor c.loop-i.division c.in_ok-next.next c.loop-i.i (omega arith) holds.grew
          c.requires.dividend c.requires.divisor holds.divided c.in_ok-next.ensures.divided;
    }

pub returns-clause-divided : goal.returns-clause-divided
returns-clause-divided c =
    let s = c.args.self.now.diagrams in
    let last : c.loop-i.i ≡ 32 = omega arith in
    division-all s c.loop-i.self.diagrams c.args.dividend c.args.divisor c.loop-i.division
    (subst (λ k. HasDivided s c.loop-i.self.diagrams (λ v. highest (word_bit s v c.args.dividend) k) c.args.divisor c.loop-i.division) last c.loop-i.invariant.divided)
