use Rattle.std.proofs.Common.{false, List, ◌++◌, map, sym, ap, subst, ◌∙◌}
use Rattle.filter_tree.specs.Trees.{tree_of}
use Rattle.filter_meaning.specs.Meaning.{packet_of, meaning}
use Rattle.filter_explain.specs.declared.asking.AskedPart.{AskedPart}
use Rattle.filter_explain.specs.Asking.{Question, question_of, questions, LastDecides}
use Rattle.filter_explain.proofs.Deciding.{last-decides}
use Rattle.filter_explain.proofs.asking.explain.Goals as goal

pub returns-clause-decides : goal.returns-clause-decides
returns-clause-decides c =
    let p = packet_of c.args.packet.now c.args.wire in
    let t = tree_of c.args.expr.now in
    let first = ap (λ (l : List AskedPart). map question_of l ++ questions false t p) c.new-asked.ensures.items in
    subst (λ (l : List Question). LastDecides l (meaning t p)) (sym (c.in_ok-ask.ensures.asked ∙ first)) (last-decides false t p)
