use Rattle.filter_meaning.specs.Meaning.{has_ports, or_test}
use Rattle.filter_diagrams.proofs.Builders.{map-ok, extends_more, means-grown}
use Rattle.filter_diagrams.proofs.builder.Builder.has_some_ports.Goals as goal

pub returns-clause-means : goal.returns-clause-means
returns-clause-means c =
    let ports = c.args.ports in
    let g1 = c.has_ports.new.self.symbols in
    let g2 = c.has_ports-2.new.self.symbols in
    let g3 = c.has_ports-3.new.self.symbols in
    let g4 = c.either.new.self.symbols in
    let t = has_ports 6 ports.direction ports.low ports.high in
    let u = has_ports 17 ports.direction ports.low ports.high in
    let w = has_ports 132 ports.direction ports.low ports.high in
    map-ok c.either-2.result
    (λ i h. h (or_test t u) w
    (c.in_ok-first.ensures.means t u
    (means-grown g1 g3 t c.in_ok-tcp.tcp (extends_more g1 g2 g3 c.has_ports-2.ensures.extends c.has_ports-3.ensures.extends) c.in_ok-tcp.ensures.means)
    (means-grown g2 g3 u c.in_ok-udp.udp c.has_ports-3.ensures.extends c.in_ok-udp.ensures.means))
    (means-grown g3 g4 w c.in_ok-sctp.sctp c.either.ensures.extends c.in_ok-sctp.ensures.means))
    c.either-2.ensures.means
