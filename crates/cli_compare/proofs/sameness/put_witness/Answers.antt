use Rattle.cli_compare.proofs.Witnesses.{witness-of}
use Rattle.cli_compare.proofs.sameness.put_witness.Goals as goal

pub returns : goal.returns
returns c =
    witness-of c.args.pair.now c.args.witness.now _ _ _ _ _ _ _ c.in_ok-put_answer.field-0 c.in_ok-put_answer-2.field-0
    c.packet_of_witness-packet.ensures
    c.in_ok-put_lengths.ensures c.in_ok-put_answer.ensures c.in_ok-push_str.ensures.bytes c.in_ok-put_answer-2.ensures c.in_ok-push_str-2.ensures.bytes
