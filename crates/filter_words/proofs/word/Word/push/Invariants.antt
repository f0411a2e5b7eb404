use Rattle.std.proofs.Common.{◌≡◌, ◌<◌, ℕ, length}
use Rattle.std.specs.Prelude.{slice_index}
use Rattle.filter_words.specs.Steps.{pushed}
use Rattle.filter_words.proofs.word.Word.push.Given as goal

abbrev pub invariant-loop-i : goal.invariant-loop-i
invariant-loop-i l = record {
  long : length l.bits ≡ 32;
  is : (k : ℕ) → k < l.i → slice_index l.bits k ≡ pushed l.fn.node (slice_index l.self.bits) k;
}
