use Rattle.std.proofs.Common.{sym, ◌∙◌}
use Rattle.filter_tree.specs.Trees.{tree_of}
use Rattle.filter_meaning.specs.Meaning.{packet_of}
use Rattle.filter_explain.specs.Asking.{question_of}
use Rattle.tap_text.proofs.Rejecting.{decided_so}
use Rattle.tap_text.proofs.rejections.put_decision_members.Goals as goal

pub returns : goal.returns
returns c =
    decided_so _ _ _ _ c.answer.result (tree_of c.args.expr.now) (packet_of c.args.packet.now c.args.wire) (question_of c.decide-asked.result)
    c.in_ok-put_verdict.ensures (c.answer.ensures ∙ sym c.decide-asked.ensures.decides) c.decide-asked.ensures.last c.put_asked.ensures
