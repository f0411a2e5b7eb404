use Rattle.std.proofs.Common.{◌∙◌, sym}
use Rattle.filter_tree.specs.Trees.{tree_of}
use Rattle.filter_meaning.specs.Meaning.{meaning}
use Rattle.filter_meaning.specs.Looks.{packet}
use Rattle.filter_explain.specs.Asking.{questions}
use Rattle.filter_explain.proofs.Deciding.{last_yes, last_no}
use Rattle.filter_explain.proofs.decided.+decide.Goals as goal

pub decide_in_compound-returns-in-Yes-clause-last : goal.decide_in_compound-returns-in-Yes-clause-last
decide_in_compound-returns-in-Yes-clause-last t c =
    let p = packet c.args.frame.now in
    let first = tree_of c.deref-in-And.result.now in
    let second = tree_of c.deref-in-Yes.result.now in
    rw (c.in-And.is, sym c.deref-in-And.ensures, sym c.deref-in-Yes.ensures) (last_yes (questions c.args.negated first p) (questions c.args.negated second p) (meaning first p) _
    (sym c.decide_in-verdict-in-And.ensures.verdict ∙ c.in-Yes.is) c.decide_in.ensures.last)

pub decide_in_compound-returns-in-No-verdict-clause-last : goal.decide_in_compound-returns-in-No-verdict-clause-last
decide_in_compound-returns-in-No-verdict-clause-last t c =
    let p = packet c.args.frame.now in
    let first = tree_of c.deref-in-Or.result.now in
    let second = tree_of c.deref-in-No-verdict.result.now in
    rw (c.in-Or.is, sym c.deref-in-Or.ensures, sym c.deref-in-No-verdict.ensures) (last_no (questions c.args.negated first p) (questions c.args.negated second p) (meaning first p) _
    (sym c.decide_in-verdict-in-Or.ensures.verdict ∙ c.in-No-verdict.is) c.decide_in-in-No-verdict.ensures.last)
