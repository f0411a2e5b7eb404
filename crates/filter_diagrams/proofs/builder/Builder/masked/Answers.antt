use Rattle.std.specs.Prelude.{◌==◌, bit_and}
use Rattle.filter_diagrams.proofs.Builders.{map-ok}
use Rattle.filter_diagrams.proofs.Means.{order-equal}
use Rattle.filter_diagrams.proofs.builder.Builder.masked.Goals as goal

pub returns-clause-means : goal.returns-clause-means
returns-clause-means c =
    map-ok c.bytes_test.result
    (λ i h. h (λ x. bit_and x c.args.bytes.mask == c.args.number) (λ x less. order-equal (bit_and x c.args.bytes.mask) c.args.number))
    c.bytes_test.ensures.means
