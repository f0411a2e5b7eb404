use Rattle.std.proofs.Common.{◌≡◌, length}
use Rattle.filter_bdd.specs.Diagrams.{Grew}
use Rattle.filter_words.specs.Words.{bit, word_bit}
use Rattle.filter_words.specs.Steps.{AreBits, chosen}
use Rattle.filter_words.proofs.word.Words.select.Given as goal

abbrev pub invariant-loop-i : goal.invariant-loop-i
invariant-loop-i l = record {
  grew : Grew l.fn.self.diagrams l.self.diagrams;
  long : length l.bits ≡ 32;
  says : AreBits l.self.diagrams (λ v k. chosen (bit l.fn.self.diagrams v l.test) (word_bit l.fn.self.diagrams v l.yes k) (word_bit l.fn.self.diagrams v l.no k)) l.bits l.i;
}
