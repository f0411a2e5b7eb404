use Rattle.cli_compare.proofs.Differences.{object-of}
use Rattle.cli_compare.proofs.line.put_object.Goals as goal

pub returns : goal.returns
returns c = object-of c.args.pair.now c.args.capture c.args.place c.args.packet.now _ _ c.in_ok-put_packet.ensures c.in_ok-put_both.ensures
