use Rattle.filter_meaning.specs.Meaning.{is_address}
use Rattle.filter_diagrams.proofs.Builders.{map-ok, means-grown}
use Rattle.filter_diagrams.proofs.Means.{means-address}
use Rattle.filter_diagrams.proofs.builder.Builder.is_ether_host.Goals as goal

pub returns-clause-means : goal.returns-clause-means
returns-clause-means c =
    let octets = c.args.address.octets in
    let g1 = c.equals.new.self.symbols in
    let g2 = c.equals-2.new.self.symbols in
    let is = c.number_of_address-number.ensures.number in
    map-ok c.directed.result
    (λ i h. h (is_address octets 6) (is_address octets 0)
    (means-grown g1 g2 (is_address octets 6) c.in_ok-source.source c.equals-2.ensures.extends
    (means-address g1 octets 6 c.number_of_address-number.result c.in_ok-source.source is c.in_ok-source.ensures.means))
    (means-address g2 octets 0 c.number_of_address-number.result c.in_ok-destination.destination is c.in_ok-destination.ensures.means))
    c.directed.ensures.means
