use Rattle.std.proofs.Common.{◌+◌, ◌*◌, ap, ◌∙◌, lit≤}
use Rattle.std.specs.Prelude.{nat_le, bit_and}
use Rattle.bpfvm.specs.Machine.{number_at}
use Rattle.filter_meaning.specs.Meaning.{Test, check, and_test, has_port}
use Rattle.filter_diagrams.proofs.Builders.{map-ok, extends_more, head-back, means-grown, means-as}
use Rattle.filter_diagrams.proofs.Means.{all-ones, order-at-least, order-at-most, port-said}
use Rattle.filter_diagrams.proofs.builder.Builder.has_port.Goals as goal

pub returns-clause-means : goal.returns-clause-means
returns-clause-means c =
    let s = c.args.self.now.symbols in
    let g1 = c.bytes_test.new.self.symbols in
    let g2 = c.bytes_test-2.new.self.symbols in
    let g3 = c.both.new.self.symbols in
    let low = c.args.ports.low in
    let high = c.args.ports.high in
    let place = 14 + 4 * c.args.header + c.args.offset in
    let t : Test = λ p. check (λ x. nat_le low x) (number_at p.captured place 2) in
    let u : Test = λ p. check (λ x. nat_le x high) (number_at p.captured place 2) in
    map-ok c.both.result
    (λ i h.
    means-as g3 (and_test t u) (has_port low high c.args.offset) i
    (λ p ok head. port-said p low high c.args.header c.args.offset s.header c.requires.known (head-back s g3 p (extends_more s g2 g3 (extends_more s g1 g2 c.bytes_test.ensures.extends c.bytes_test-2.ensures.extends) c.both.ensures.extends) head))
    (h t u
    (means-grown g1 g2 t c.in_ok-low.low c.bytes_test-2.ensures.extends
    (c.in_ok-low.ensures.means (λ x. nat_le low x) (λ x less. order-at-least (bit_and x 18446744073709551615) c.from.result ∙ ap (λ n. nat_le n (bit_and x 18446744073709551615)) c.from.ensures ∙ ap (λ m. nat_le low m) (all-ones x 2 (lit≤ tt) less))))
    (c.in_ok-high.ensures.means (λ x. nat_le x high) (λ x less. order-at-most (bit_and x 18446744073709551615) c.from-2.result ∙ ap (λ n. nat_le (bit_and x 18446744073709551615) n) c.from-2.ensures ∙ ap (λ m. nat_le m high) (all-ones x 2 (lit≤ tt) less)))))
    c.both.ensures.means
