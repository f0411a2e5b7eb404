use Rattle.std.proofs.Common.{sym, ◌∙◌}
use Rattle.filter_tree.specs.Trees.{tree_of}
use Rattle.filter_meaning.specs.Meaning.{packet_of}
use Rattle.filter_explain.specs.Asking.{question_of}
use Rattle.filter_explain.proofs.Telling.{decided}
use Rattle.filter_explain.proofs.text.put_decision.Goals as goal

pub returns-clause-told : goal.returns-clause-told
returns-clause-told c =
    decided _ _ _ c.answer-verdict.result (tree_of c.args.expr.now) (packet_of c.args.packet.now c.args.wire) (question_of c.decide-asked.result)
    c.in_ok-put_verdict.ensures (c.answer-verdict.ensures ∙ sym c.decide-asked.ensures.decides) c.decide-asked.ensures.last c.in_ok-put_asked.ensures
