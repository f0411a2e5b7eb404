use Rattle.filter_bdd.specs.Diagrams.{Grew}
use Rattle.filter_words.specs.Words.{word_bit}
use Rattle.filter_words.specs.Division.{HasDivided}
use Rattle.filter_words.proofs.Quotients.{highest}
use Rattle.filter_words.proofs.word.Words.divide_all.Given as goal

abbrev pub invariant-loop-i : goal.invariant-loop-i
invariant-loop-i l = record {
  grew : Grew l.fn.self.diagrams l.self.diagrams;
  divided : HasDivided l.fn.self.diagrams l.self.diagrams (λ v. highest (word_bit l.fn.self.diagrams v l.dividend) l.i) l.divisor l.division;
}
