use Rattle.std.proofs.Common.{◌≡◌, length}
use Rattle.filter_bdd.specs.Diagrams.{Grew}
use Rattle.filter_words.specs.Words.{word_bit, Says}
use Rattle.filter_words.specs.Steps.{AreBits, sum_bit, carries}
use Rattle.filter_words.proofs.word.Words.sum.Given as goal

abbrev pub invariant-loop-i : goal.invariant-loop-i
invariant-loop-i l = record {
  grew : Grew l.fn.self.diagrams l.self.diagrams;
  long : length l.bits ≡ 32;
  says : AreBits l.self.diagrams (λ v k. sum_bit (word_bit l.fn.self.diagrams v l.first k) (word_bit l.fn.self.diagrams v l.second k)
      (carries (word_bit l.fn.self.diagrams v l.first) (word_bit l.fn.self.diagrams v l.second) l.fn.carry k)) l.bits l.i;
  carried : Says l.self.diagrams (λ v. carries (word_bit l.fn.self.diagrams v l.first) (word_bit l.fn.self.diagrams v l.second) l.fn.carry l.i) l.carried;
}
