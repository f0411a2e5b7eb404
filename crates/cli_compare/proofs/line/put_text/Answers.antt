use Rattle.cli_compare.proofs.Differences.{line-of}
use Rattle.cli_compare.proofs.line.put_text.Goals as goal

pub returns : goal.returns
returns c =
    line-of c.args.pair.now c.args.place c.args.packet.now _ _ _ _ _ _ c.in_ok-put_answer.field-0 c.in_ok-put_answer-2.field-0
    c.in_ok-put_packet.ensures c.in_ok-push_str.ensures.bytes c.in_ok-put_answer.ensures c.in_ok-push_str-2.ensures.bytes c.in_ok-put_answer-2.ensures c.in_ok-push_str-3.ensures.bytes
