use Rattle.std.proofs.Common.{◌≡◌, ◌<◌, ℕ, length}
use Rattle.std.specs.Prelude.{slice_index}
use Rattle.filter_words.specs.Steps.{after_byte}
use Rattle.filter_words.proofs.word.Word.join.Given as goal

abbrev pub invariant-loop-i : goal.invariant-loop-i
invariant-loop-i l = record {
  long : length l.bits ≡ 32;
  is : (k : ℕ) → k < l.i → slice_index l.bits k ≡ after_byte (slice_index l.fn.byte.bits) (slice_index l.self.bits) k;
}
