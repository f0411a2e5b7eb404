use Rattle.cli_compare.proofs.Differences.{both-of}
use Rattle.cli_compare.proofs.line.put_both.Goals as goal

pub returns : goal.returns
returns c =
    both-of c.args.pair.now c.args.packet.now _ _ _ _ _ _ c.in_ok-put_answer.field-0 c.in_ok-put_answer-2.field-0
    c.in_ok-push_str.ensures.bytes c.in_ok-put_answer.ensures c.in_ok-push_str-2.ensures.bytes c.in_ok-put_answer-2.ensures c.in_ok-push_str-3.ensures.bytes
