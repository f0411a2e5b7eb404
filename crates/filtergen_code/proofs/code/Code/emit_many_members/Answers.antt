use Rattle.std.proofs.Common.{length}
use Rattle.filtergen_code.proofs.Leading.{relays-all-later}
use Rattle.filtergen_code.proofs.Narrowed.{given-more, given-relayed}
use Rattle.filtergen_code.proofs.Taking.{listed_fits}
use Rattle.filtergen_code.proofs.code.Code.emit_many_members.Goals as goal

pub returns : goal.returns
returns c =
    let group = c.args.group.now in
    let relayed = c.emit_relays-targets.ensures in
    let done = c.in_ok-entry.ensures in
    (given-more _ (listed_fits group.kind.form (length group.ranges.items) c.requires.many) (given-relayed relayed.extends relayed.relays done), relays-all-later relayed.relays done.extends)
