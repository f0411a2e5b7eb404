use Rattle.std.proofs.Common.{◌≡◌, arith, subst}
use Rattle.filter_words.specs.Words.{number, word_bit}
use Rattle.filter_words.proofs.Numbers.{number-none, number-known}
use Rattle.filter_words.proofs.Values.{value-is}
use Rattle.filter_words.proofs.word.Words.known.Goals as goal

pub loop-i-init : goal.loop-i-init
loop-i-init c = record { is = λ v. number-none (word_bit c.args.self.now.diagrams v c.args.word) }

pub loop-i-preserved : goal.loop-i-preserved
loop-i-preserved c = record {
  is = λ v. number-known (word_bit c.args.self.now.diagrams v c.args.word) c.in_ok-one.one c.loop-i.i c.loop-i.number c.in_ok-number.number
      (c.loop-i.invariant.is v) (c.in_ok-one.ensures v) c.in_ok-number.ensures;
}

pub returns : goal.returns
returns c =
    let s = c.args.self.now.diagrams in
    let last : c.loop-i.i ≡ 32 = omega arith in
    λ v. value-is s c.args.word v c.loop-i.number (subst (λ k. number (word_bit s v c.args.word) k ≡ c.loop-i.number) last (c.loop-i.invariant.is v))
