use Rattle.filter_meaning.specs.Meaning.{in_any_net}
use Rattle.filtergen_code.proofs.Knowing.{type-from}
use Rattle.filtergen_code.proofs.Narrowed.{given-ip, net-known}
use Rattle.filtergen_code.proofs.code.Code.emit_net_given.Goals as goal

pub returns : goal.returns
returns c =
    let known = c.args.context.known in
    let n = c.args.net in
    rw c.at.ensures
    (given-ip known (in_any_net c.args.network n.direction n.address n.mask) c.args.context.targets
    (λ p holds. type-from known 0x0800 p holds c.requires.known)
    (λ p holds. net-known c.args.network n.direction n.address n.mask p (type-from known 0x0800 p holds c.requires.known) c.requires.network)
    (rw c.ip_exits-exits.ensures at c.emit_addresses.ensures))
