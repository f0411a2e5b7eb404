use Rattle.filtergen_facts.proofs.Settling.{covers-ports, on-true}
use Rattle.filtergen_facts.proofs.lists.ListKind.has_ports.Goals as goal

pub returns-in-Either-Bytes : goal.returns-in-Either-Bytes
returns-in-Either-Bytes c = on-true c.are_ports.result (covers-ports c.args.self c.args.other c.in-Either-Bytes.is-0 c.in-Either-Bytes.is-1) c.are_ports.ensures
