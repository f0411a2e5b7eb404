use Rattle.filtergen_code.proofs.Addresses.{decides-address}
use Rattle.filtergen_code.proofs.code.Code.emit_address_load.Goals as goal

pub returns : goal.returns
returns c =
    rw c.len.ensures.value (decides-address c.of_address.result c.args.group.now.kind.mask c.args.offset c.args.group.now.ranges.items c.of_address.ensures c.requires.exits c.requires.some c.requires.last c.emit_load.ensures)
