use Rattle.std.proofs.Common.{◌≡◌, length, false}
use Rattle.std.specs.Prelude.{slice_index}
use Rattle.filter_words.specs.Words.{bit}
use Rattle.filter_words.specs.Steps.{AreBits, padded}
use Rattle.filter_words.proofs.word.Words.from_bits.Given as goal

abbrev pub invariant-loop-i : goal.invariant-loop-i
invariant-loop-i l = record {
  long : length l.bits ≡ 32;
  says : AreBits l.self.diagrams (λ v k. padded (λ j. bit l.fn.self.diagrams v (slice_index l.nodes j)) false (length l.nodes) k) l.bits l.i;
}
