use Rattle.std.specs.Prelude.{nat_le}
use Rattle.filter_diagrams.proofs.Builders.{map-ok}
use Rattle.filter_diagrams.proofs.Means.{order-at-least}
use Rattle.filter_diagrams.proofs.builder.Builder.is_at_least.Goals as goal

pub returns-clause-means : goal.returns-clause-means
returns-clause-means c = map-ok c.wire_test.result (λ i h. h (λ x. nat_le c.args.number x) (λ x. order-at-least x c.args.number)) c.wire_test.ensures.means
