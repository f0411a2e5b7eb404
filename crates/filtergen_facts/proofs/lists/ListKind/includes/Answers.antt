use Rattle.filtergen_facts.proofs.Settling.{on-true}
use Rattle.filtergen_facts.proofs.Leaving.{includes-port}
use Rattle.filtergen_facts.proofs.lists.ListKind.includes.Goals as goal

pub returns-in-Either-Bytes : goal.returns-in-Either-Bytes
returns-in-Either-Bytes c = on-true c.are_a_port.result (includes-port c.args.self c.args.other c.in-Either-Bytes.is-0 c.in-Either-Bytes.is-1) c.are_a_port.ensures
