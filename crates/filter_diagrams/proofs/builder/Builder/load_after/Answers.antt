use Rattle.std.specs.Prelude.{Some}
use Rattle.filter_words.specs.Words.{value}
use Rattle.filter_symbols.specs.Packets.{bit_of}
use Rattle.filter_diagrams.proofs.builder.Builder.load_after.Goals as goal

pub returns-clause-stands : goal.returns-clause-stands
returns-clause-stands c =
    c.in_ok-bytes.ensures.stands (λ p. Some (value c.args.self.now.symbols.words.diagrams (bit_of p) c.args.index)) c.in_ok-place.ensures.stands
