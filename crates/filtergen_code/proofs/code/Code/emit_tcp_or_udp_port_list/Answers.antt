use Rattle.std.proofs.Common.{◌<◌, length, arith}
use Rattle.filtergen_facts.specs.declared.lists.ValueRange.{ValueRange}
use Rattle.filter_meaning.specs.Meaning.{or_test, has_ports}
use Rattle.filtergen_facts.specs.Lists.{any_of, direction_of}
use Rattle.filtergen_code.specs.Emission.{AreExits}
use Rattle.filtergen_code.proofs.Deciding.{decides-both}
use Rattle.filtergen_code.proofs.Narrowed.{given-more, given-same}
use Rattle.filtergen_code.proofs.Shared.{either-shared}
use Rattle.filtergen_code.proofs.code.Code.emit_tcp_or_udp_port_list.Goals as goal

pub returns : goal.returns
returns c =
    let ranges = c.args.group.now.ranges.items in
    let d = direction_of c.args.group.now.kind.sides in
    let some : 0 < length ranges = omega (arith, c.requires.many) in
    let is = c.ip_exits-exits.ensures in
    let are : AreExits c.args.self.now (record { yes = c.args.context.targets.yes.ip; no = c.args.context.targets.no.ip }) = (c.requires.targets.0.ip, c.requires.targets.1.ip) in
    let ports = rw is at c.in_ok-yes.ensures in
    let first = rw is at c.emit_fragment_test-yes.ensures in
    let number = rw is at c.emit_tcp_or_udp-next.ensures in
    given-more _ (omega arith)
    (given-same c.args.context.known _ (any_of (λ (x : ValueRange). or_test (has_ports 6 d x.low x.high) (has_ports 17 d x.low x.high)) ranges) (λ p holds. either-shared d ranges p some)
    (c.emit_ip_guard_given.ensures.guards _ _ c.args.self.now c.requires.targets (decides-both are (decides-both are ports first) number)))
