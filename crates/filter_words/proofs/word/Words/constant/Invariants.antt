use Rattle.std.proofs.Common.{◌≡◌, length}
use Rattle.filter_bdd.specs.Fields.{is_set}
use Rattle.filter_words.specs.Steps.{AreBits}
use Rattle.filter_words.proofs.word.Words.constant.Given as goal

abbrev pub invariant-loop-i : goal.invariant-loop-i
invariant-loop-i l = record {
  long : length l.bits ≡ 32;
  says : AreBits l.self.diagrams (λ v k. is_set l.number k) l.bits l.i;
}
