use Rattle.std.proofs.Common.{◌≡◌, length}
use Rattle.std.specs.Prelude.{not}
use Rattle.filter_bdd.specs.Diagrams.{Grew}
use Rattle.filter_words.specs.Words.{word_bit}
use Rattle.filter_words.specs.Steps.{AreBits}
use Rattle.filter_words.proofs.word.Words.not.Given as goal

abbrev pub invariant-loop-i : goal.invariant-loop-i
invariant-loop-i l = record {
  grew : Grew l.fn.self.diagrams l.self.diagrams;
  long : length l.bits ≡ 32;
  says : AreBits l.self.diagrams (λ v k. not (word_bit l.fn.self.diagrams v l.word k)) l.bits l.i;
}
