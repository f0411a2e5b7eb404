use Rattle.std.specs.Prelude.{nat_le}
use Rattle.filter_diagrams.proofs.Builders.{map-ok}
use Rattle.filter_diagrams.proofs.Means.{order-at-most}
use Rattle.filter_diagrams.proofs.builder.Builder.is_at_most.Goals as goal

pub returns-clause-means : goal.returns-clause-means
returns-clause-means c = map-ok c.wire_test.result (λ i h. h (λ x. nat_le x c.args.number) (λ x. order-at-most x c.args.number)) c.wire_test.ensures.means
