use Rattle.filter_bdd.specs.Diagrams.{Grew}
use Rattle.filter_words.specs.Words.{word_bit, Says}
use Rattle.filter_words.specs.Steps.{is_above}
use Rattle.filter_words.proofs.word.Words.order.Given as goal

abbrev pub invariant-loop-i : goal.invariant-loop-i
invariant-loop-i l = record {
  grew : Grew l.fn.self.diagrams l.self.diagrams;
  says : Says l.self.diagrams (λ v. is_above (word_bit l.fn.self.diagrams v l.first) (word_bit l.fn.self.diagrams v l.second) l.fn.equal l.i) l.above;
}
