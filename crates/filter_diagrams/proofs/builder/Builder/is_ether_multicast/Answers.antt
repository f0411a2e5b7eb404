use Rattle.std.specs.Prelude.{◌==◌, bit_and, not}
use Rattle.filter_diagrams.proofs.Builders.{map-ok}
use Rattle.filter_diagrams.proofs.Means.{order-some}
use Rattle.filter_diagrams.proofs.builder.Builder.is_ether_multicast.Goals as goal

pub returns-clause-means : goal.returns-clause-means
returns-clause-means c = map-ok c.bytes_test.result (λ i h. h (λ b. not (bit_and b 1 == 0)) (λ x less. order-some (bit_and x 1))) c.bytes_test.ensures.means
