use Rattle.std.proofs.Common.{sym, ◌∙◌}
use Rattle.filtergen_facts.proofs.Narrowed.{net-with_fact, ports-with_fact}
use Rattle.filtergen_facts.proofs.lists.primitive_of_both.Goals as goal

pub returns-in_ok-network_of-in-Net-None-default-default-default : goal.returns-in_ok-network_of-in-Net-None-default-default-default
returns-in_ok-network_of-in-Net-None-default-default-default c = λ p.
    let net = c.in-Net-None-default-default-default in
    let is = sym c.network_of.ensures ∙ c.in_ok-network_of-in-Net-None-default-default-default.was in
    rw (net.is, rw net.is at net.network-is) (rw is at (net-with_fact c.args.word net.direction net.address net.mask p))

pub returns-in_ok-transport_of-in-Ports-None-default-default-default : goal.returns-in_ok-transport_of-in-Ports-None-default-default-default
returns-in_ok-transport_of-in-Ports-None-default-default-default c = λ p.
    let ports = c.in-Ports-None-default-default-default in
    let is = sym c.transport_of.ensures ∙ c.in_ok-transport_of-in-Ports-None-default-default-default.was in
    rw (ports.is, rw ports.is at ports.transport-is) (rw is at (ports-with_fact c.args.word ports.direction ports.low ports.high p))
