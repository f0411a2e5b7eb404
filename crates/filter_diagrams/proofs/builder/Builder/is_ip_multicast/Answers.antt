use Rattle.std.proofs.Common.{ap, ◌∙◌, lit≤}
use Rattle.std.specs.Prelude.{nat_le, bit_and}
use Rattle.filter_meaning.specs.Meaning.{is_type, check, byte}
use Rattle.filter_diagrams.proofs.Builders.{map-ok, means-grown}
use Rattle.filter_diagrams.proofs.Means.{all-ones, order-at-least}
use Rattle.filter_diagrams.proofs.builder.Builder.is_ip_multicast.Goals as goal

pub returns-clause-means : goal.returns-clause-means
returns-clause-means c =
    map-ok c.both.result
    (λ i h. h (is_type 0x0800) (λ p. check (λ b. nat_le 224 b) (byte 30 p))
    (means-grown c.is_type.new.self.symbols c.bytes_test.new.self.symbols (is_type 0x0800) c.in_ok-ip.ip c.bytes_test.ensures.extends c.in_ok-ip.ensures.means)
    (c.in_ok-multicast.ensures.means (λ b. nat_le 224 b) (λ x less. order-at-least (bit_and x 18446744073709551615) 224 ∙ ap (λ m. nat_le 224 m) (all-ones x 1 (lit≤ tt) less))))
    c.both.ensures.means
