use Rattle.filter_meaning.specs.Meaning.{has_port, by_direction, has_any_ports}
use Rattle.filtergen_code.proofs.Narrowed.{given-same, of-transport-is}
use Rattle.filtergen_code.proofs.code.Code.emit_ports_given.Goals as goal

pub returns : goal.returns
returns c =
    let d = c.args.ports.direction in
    let low = c.args.ports.low in
    let high = c.args.ports.high in
    let exits = c.first_fragment_exits-exits.ensures in
    given-same c.args.context.known _ (has_any_ports c.args.asked d low high) (λ p holds. of-transport-is c.args.asked d low high p)
    (c.emit_fragment_guard_given.ensures.guards 15 (by_direction d (has_port low high 0) (has_port low high 2)) c.first_fragment_exits-exits.result c.args.self.now c.requires.ready.1 exits.yes exits.no c.emit_header_and_ports-first_fragment.ensures)
