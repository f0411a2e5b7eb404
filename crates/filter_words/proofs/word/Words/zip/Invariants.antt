use Rattle.std.proofs.Common.{◌≡◌, length}
use Rattle.filter_bdd.specs.Diagrams.{Grew}
use Rattle.filter_words.specs.Words.{word_bit}
use Rattle.filter_words.specs.Steps.{AreBits, joined_bit}
use Rattle.filter_words.proofs.word.Words.zip.Given as goal

abbrev pub invariant-loop-i : goal.invariant-loop-i
invariant-loop-i l = record {
  grew : Grew l.fn.self.diagrams l.self.diagrams;
  long : length l.bits ≡ 32;
  says : AreBits l.self.diagrams (λ v k. joined_bit l.operation (word_bit l.fn.self.diagrams v l.first k) (word_bit l.fn.self.diagrams v l.second k)) l.bits l.i;
}
