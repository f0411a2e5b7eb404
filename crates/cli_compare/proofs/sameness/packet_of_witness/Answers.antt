use Rattle.cli_compare.proofs.Witnesses.{witness-packet}
use Rattle.cli_compare.proofs.sameness.packet_of_witness.Goals as goal

pub returns : goal.returns
returns c = witness-packet c.args.witness.now _ c.as_slice.ensures.value
