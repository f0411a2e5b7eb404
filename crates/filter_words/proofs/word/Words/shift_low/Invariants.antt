use Rattle.filter_bdd.specs.Diagrams.{Grew}
use Rattle.filter_words.specs.Words.{number, word_bit, value, HasValue}
use Rattle.filter_words.specs.Steps.{shifted}
use Rattle.filter_words.proofs.word.Words.shift_low.Given as goal

abbrev pub invariant-loop-stage : goal.invariant-loop-stage
invariant-loop-stage l = record {
  grew : Grew l.fn.self.diagrams l.self.diagrams;
  is : HasValue l.self.diagrams (λ v. shifted l.shift (value l.fn.self.diagrams v l.fn.word) (number (word_bit l.fn.self.diagrams v l.by) l.stage)) l.moved;
}
