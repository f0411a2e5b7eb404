use Rattle.std.proofs.Common.{codes, string_bytes}
use Rattle.filter_tree.specs.Trees.{tree_of}
use Rattle.filter_explain.specs.Deciding.{part_text}
use Rattle.tap_text.specs.Rejections.{cause_member}
use Rattle.tap_text.proofs.Rejecting.{asked_so}
use Rattle.tap_text.proofs.rejections.put_asked.Goals as goal

pub returns : goal.returns
returns c =
    let asked = c.args.asked.now in
    asked_so c.put_cause.result (string_bytes c.args.line.now) _ _ _ _ _ _ (codes ",\"decided\":") (part_text asked.negated (tree_of asked.part.now)) (cause_member asked.cause)
    c.clear.ensures.bytes c.in_ok-put_part.ensures c.as_str.ensures.value c.in_ok-push_str.ensures.bytes c.in_ok-put_string.ensures c.put_cause.ensures
