use Rattle.std.proofs.Common.{◌+◌, ◌*◌, ◌<◌, length, arith}
use Rattle.filtergen_facts.specs.declared.lists.ValueRange.{ValueRange}
use Rattle.filter_meaning.specs.Meaning.{by_direction, has_port, has_any_ports}
use Rattle.filtergen_facts.specs.Lists.{any_of, direction_of}
use Rattle.filtergen_code.proofs.Shared.{ports-shared}
use Rattle.filtergen_code.proofs.Leading.{decides-by-same}
use Rattle.filtergen_code.proofs.Past.{decides-past}
use Rattle.filtergen_code.proofs.Narrowed.{given-any, given-more, given-same}
use Rattle.filtergen_code.proofs.code.Code.emit_port_list.Goals as goal

pub returns-in_ok-room-in-Some : goal.returns-in_ok-room-in-Some
returns-in_ok-room-in-Some c =
    let ranges = c.args.group.now.ranges.items in
    let d = direction_of c.args.group.now.kind.sides in
    let some : 0 < length ranges = omega (arith, c.requires.many) in
    let t = λ (x : ValueRange). by_direction d (has_port x.low x.high 0) (has_port x.low x.high 2) in
    let exits = c.first_fragment_exits-exits.ensures in
    given-more _ (omega arith)
    (given-same c.args.context.known _ (any_of (λ (x : ValueRange). has_any_ports c.args.asked d x.low x.high) ranges) (λ p holds. ports-shared c.args.asked d ranges p some)
    (c.emit_fragment_guard_given.ensures.guards (14 * length ranges + 7) (any_of t ranges) c.first_fragment_exits-exits.result c.args.self.now c.requires.targets exits.yes exits.no c.in_ok-next-in-Some.ensures))

pub returns-in_ok-room-in-None : goal.returns-in_ok-room-in-None
returns-in_ok-room-in-None c =
    let ranges = c.args.group.now.ranges.items in
    let d = direction_of c.args.group.now.kind.sides in
    let some : 0 < length ranges = omega (arith, c.requires.many) in
    let t = λ (x : ValueRange). by_direction d (has_port x.low x.high 0) (has_port x.low x.high 2) in
    let exits = c.first_fragment_exits-exits-in-None.ensures in
    given-more _ (omega arith)
    (given-any c.args.context.known
    (decides-by-same _ (any_of (λ (x : ValueRange). has_any_ports c.args.asked d x.low x.high) ranges) (λ p bytes. ports-shared c.args.asked d ranges p some)
    (decides-past (any_of t ranges) c.args.asked c.args.context.targets c.with_other_protocol.ensures c.requires.targets
    (c.emit_transport_guard-entry.ensures.guards (14 * length ranges + 7) (any_of t ranges) c.first_fragment_exits-exits-in-None.result c.args.self.now c.requires.targets exits.yes exits.no c.in_ok-next-in-None.ensures))))
