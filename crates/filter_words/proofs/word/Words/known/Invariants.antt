use Rattle.std.proofs.Common.{◌≡◌, ℕ, Bool}
use Rattle.filter_words.specs.Words.{number, word_bit}
use Rattle.filter_words.proofs.word.Words.known.Given as goal

abbrev pub invariant-loop-i : goal.invariant-loop-i
invariant-loop-i l = record {
  is : (v : ℕ → Bool) → number (word_bit l.self.diagrams v l.word) l.i ≡ l.number;
}
