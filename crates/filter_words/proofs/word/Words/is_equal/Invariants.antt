use Rattle.std.proofs.Common.{false}
use Rattle.filter_bdd.specs.Diagrams.{Grew}
use Rattle.filter_words.specs.Words.{word_bit, Says}
use Rattle.filter_words.specs.Steps.{are_equal}
use Rattle.filter_words.proofs.word.Words.is_equal.Given as goal

abbrev pub invariant-loop-i : goal.invariant-loop-i
invariant-loop-i l = record {
  grew : Grew l.fn.self.diagrams l.self.diagrams;
  none : Says l.self.diagrams (λ v. false) l.no;
  says : Says l.self.diagrams (λ v. are_equal (word_bit l.fn.self.diagrams v l.first) (word_bit l.fn.self.diagrams v l.second) l.i) l.equal;
}
