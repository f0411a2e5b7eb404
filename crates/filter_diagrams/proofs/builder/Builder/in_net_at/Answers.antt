use Rattle.filter_meaning.specs.Meaning.{is_type, by_direction, has_address}
use Rattle.filter_diagrams.proofs.Builders.{map-ok, extends_more, means-grown}
use Rattle.filter_diagrams.proofs.Means.{means-masked}
use Rattle.filter_diagrams.proofs.builder.Builder.in_net_at.Goals as goal

pub returns-clause-means : goal.returns-clause-means
returns-clause-means c =
    let net = c.args.net in
    let g1 = c.is_type.new.self.symbols in
    let g2 = c.masked.new.self.symbols in
    let g3 = c.masked-2.new.self.symbols in
    let g4 = c.directed.new.self.symbols in
    let s = has_address net.address net.mask c.args.offsets.0 in
    let d = has_address net.address net.mask c.args.offsets.1 in
    let grew = extends_more g1 g3 g4 (extends_more g1 g2 g3 c.masked.ensures.extends c.masked-2.ensures.extends) c.directed.ensures.extends in
    map-ok c.both.result
    (λ i h. h (is_type c.args.number) (by_direction net.direction s d)
    (means-grown g1 g4 (is_type c.args.number) c.in_ok-network.network grew c.in_ok-network.ensures.means)
    (c.in_ok-side.ensures.means s d
    (means-grown g2 g3 s c.in_ok-source.source c.masked-2.ensures.extends
    (means-masked g2 c.args.offsets.0 c.from-address.result c.from-mask.result net.address net.mask c.in_ok-source.source c.from-address.ensures c.from-mask.ensures c.in_ok-source.ensures.means))
    (means-masked g3 c.args.offsets.1 c.from-address.result c.from-mask.result net.address net.mask c.in_ok-destination.destination c.from-address.ensures c.from-mask.ensures c.in_ok-destination.ensures.means)))
    c.both.ensures.means
