use Rattle.filter_meaning.specs.Meaning.{is_first_fragment_of, by_direction, has_port}
use Rattle.filter_diagrams.proofs.Builders.{map-ok, extends_more, means-grown}
use Rattle.filter_diagrams.proofs.builder.Builder.has_ports.Goals as goal

pub returns-clause-means : goal.returns-clause-means
returns-clause-means c =
    let ports = c.args.ports in
    let g1 = c.is_first_fragment_of.new.self.symbols in
    let g2 = c.has_port.new.self.symbols in
    let g3 = c.has_port-2.new.self.symbols in
    let g4 = c.directed.new.self.symbols in
    let s = has_port ports.low ports.high 0 in
    let d = has_port ports.low ports.high 2 in
    let grew = extends_more g1 g3 g4 (extends_more g1 g2 g3 c.has_port.ensures.extends c.has_port-2.ensures.extends) c.directed.ensures.extends in
    map-ok c.both.result
    (λ i h. h (is_first_fragment_of c.args.number) (by_direction ports.direction s d)
    (means-grown g1 g4 (is_first_fragment_of c.args.number) c.in_ok-first.first grew c.in_ok-first.ensures.means)
    (c.in_ok-side.ensures.means s d
    (means-grown g2 g3 s c.in_ok-source.source c.has_port-2.ensures.extends c.in_ok-source.ensures.means)
    c.in_ok-destination.ensures.means))
    c.both.ensures.means
