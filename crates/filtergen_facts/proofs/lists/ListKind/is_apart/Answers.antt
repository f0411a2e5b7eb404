use Rattle.filtergen_facts.proofs.Settling.{on-true}
use Rattle.filtergen_facts.proofs.Apart.{apart-net}
use Rattle.filtergen_facts.proofs.lists.ListKind.is_apart.Goals as goal

pub returns-in-IpNet-Net : goal.returns-in-IpNet-Net
returns-in-IpNet-Net c = on-true c.reaches.result (apart-net c.args.self c.args.other c.in-IpNet-Net.is-0 c.in-IpNet-Net.is-1) c.reaches.ensures
