use Rattle.filter_tree.specs.declared.tree.Network.TheVariants as networks
use Rattle.filter_meaning.specs.Meaning.{in_net, or_test}
use Rattle.filter_diagrams.proofs.Builders.{map-ok, extends_more, means-grown}
use Rattle.filter_diagrams.proofs.builder.Builder.is_in_some_net.Goals as goal

pub returns-clause-means : goal.returns-clause-means
returns-clause-means c =
    let net = c.args.net in
    let g1 = c.is_in_net.new.self.symbols in
    let g2 = c.is_in_net-2.new.self.symbols in
    let g3 = c.is_in_net-3.new.self.symbols in
    let g4 = c.either.new.self.symbols in
    let t = in_net networks.Ip net.direction net.address net.mask in
    let u = in_net networks.Arp net.direction net.address net.mask in
    let w = in_net networks.Rarp net.direction net.address net.mask in
    map-ok c.either-2.result
    (λ i h. h (or_test t u) w
    (c.in_ok-first.ensures.means t u
    (means-grown g1 g3 t c.in_ok-ip.ip (extends_more g1 g2 g3 c.is_in_net-2.ensures.extends c.is_in_net-3.ensures.extends) c.in_ok-ip.ensures.means)
    (means-grown g2 g3 u c.in_ok-arp.arp c.is_in_net-3.ensures.extends c.in_ok-arp.ensures.means))
    (means-grown g3 g4 w c.in_ok-rarp.rarp c.either.ensures.extends c.in_ok-rarp.ensures.means))
    c.either-2.ensures.means
