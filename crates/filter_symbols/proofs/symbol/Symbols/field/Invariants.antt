use Rattle.std.proofs.Common.{◌≡◌, ℕ, ◌-◌, ◌<◌, false, length}
use Rattle.std.specs.Prelude.{slice_index}
use Rattle.filter_words.specs.Steps.{padded}
use Rattle.filter_symbols.specs.Packets.{bit_of}
use Rattle.filter_symbols.specs.Symbols.{Extends}
use Rattle.filter_symbols.specs.Steps.{IsBitOf}
use Rattle.filter_symbols.proofs.symbol.Symbols.field.Given as goal

abbrev pub invariant-loop-i : goal.invariant-loop-i
invariant-loop-i l = record {
  extends : Extends l.fn.self l.self;
  long : length l.bits ≡ 32;
  bits : (k : ℕ) → k < l.i → IsBitOf l.self l.last (λ p. padded (λ j. bit_of p (l.last - j)) false l.width k) (slice_index l.bits k);
}
