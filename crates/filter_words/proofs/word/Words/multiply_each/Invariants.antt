use Rattle.std.proofs.Common.{◌*◌, ◌%◌, ◌^◌}
use Rattle.filter_bdd.specs.Diagrams.{Grew}
use Rattle.filter_words.specs.Words.{number, word_bit, value, HasValue}
use Rattle.filter_words.proofs.word.Words.multiply_each.Given as goal

abbrev pub invariant-loop-i : goal.invariant-loop-i
invariant-loop-i l = record {
  grew : Grew l.fn.self.diagrams l.self.diagrams;
  is : HasValue l.self.diagrams (λ v. (value l.fn.self.diagrams v l.first * number (word_bit l.fn.self.diagrams v l.second) l.i) % 2 ^ 32) l.product;
}
