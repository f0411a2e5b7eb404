use Rattle.std.proofs.Common.{ap, ◌∙◌}
use Rattle.std.specs.Prelude.{◌==◌, bit_and}
use Rattle.filter_diagrams.proofs.Builders.{map-ok}
use Rattle.filter_diagrams.proofs.Means.{order-equal, all-ones}
use Rattle.filter_diagrams.proofs.builder.Builder.equals.Goals as goal

pub returns-clause-means : goal.returns-clause-means
returns-clause-means c =
    map-ok c.bytes_test.result
    (λ i h. h (λ x. x == c.args.number)
    (λ x less. order-equal (bit_and x 18446744073709551615) c.args.number ∙ ap (λ m. m == c.args.number) (all-ones x c.args.size c.requires.size less)))
    c.bytes_test.ensures.means
