use Rattle.std.proofs.Common.{◌≡◌, length, false}
use Rattle.filter_words.specs.Words.{word_bit}
use Rattle.filter_words.specs.Steps.{AreBits, moved}
use Rattle.filter_words.proofs.word.Words.shift_by.Given as goal

abbrev pub invariant-loop-i : goal.invariant-loop-i
invariant-loop-i l = record {
  long : length l.bits ≡ 32;
  says : AreBits l.self.diagrams (λ v k. moved l.shift (word_bit l.fn.self.diagrams v l.word) false l.count k) l.bits l.i;
}
