use Rattle.std.specs.Prelude.{◌==◌, bit_and}
use Rattle.filter_meaning.specs.Meaning.{is_protocol, check, half}
use Rattle.filter_diagrams.proofs.Builders.{map-ok, means-grown}
use Rattle.filter_diagrams.proofs.builder.Builder.is_first_fragment_of.Goals as goal

pub returns-clause-means : goal.returns-clause-means
returns-clause-means c =
    map-ok c.both.result
    (λ i h. h (is_protocol c.args.number) (λ p. check (λ b. bit_and b 0x1fff == 0) (half 20 p))
    (means-grown c.is_protocol.new.self.symbols c.masked.new.self.symbols (is_protocol c.args.number) c.in_ok-protocol.protocol c.masked.ensures.extends c.in_ok-protocol.ensures.means)
    c.in_ok-first.ensures.means)
    c.both.ensures.means
