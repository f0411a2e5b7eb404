use Rattle.std.proofs.Common.{sym, ◌∙◌}
use Rattle.filterlang.specs.Phrases.{kinds}
use Rattle.filter_tree.specs.Trees.{tree_of}
use Rattle.filterlang.specs.Reading.{joints, group_term_at}
use Rattle.filterlang.proofs.Chains.{turn_shorter, chain_turn}
use Rattle.filterlang.proofs.Shorter.{joints_shorter, group_term_shortens}
use Rattle.filterlang.proofs.Turns.{group_not, group_parenthesis, group_identifier}
use Rattle.filterlang.proofs.Closing.{closed_gives, fails}
use Rattle.filterlang.proofs.cursor.Cursor.+group.Goals as goal

pub group-loop-joint-smaller : goal.group-loop-joint-smaller
group-loop-joint-smaller t c =
    turn_shorter joints (group_term_at c.args.levels) joints_shorter (group_term_shortens c.args.levels) _ _ _ _ _ _ _ (sym c.in-Some.ensures) c.in_ok-next.ensures

pub group-loop-joint-preserved : goal.group-loop-joint-preserved
group-loop-joint-preserved t c =
    sym (chain_turn joints (group_term_at c.args.levels) joints_shorter (group_term_shortens c.args.levels) _ _ _ _ _ _ _ _ _ (sym c.in-Some.ensures) c.in_ok-next.ensures (rw c.in_ok-left.ensures.ok at c.in_ok-expr-2.ensures))
    ∙ c.loop-joint.invariant

pub group_term-returns-in_ok-expr-in-Parenthesis : goal.group_term-returns-in_ok-expr-in-Parenthesis
group_term-returns-in_ok-expr-in-Parenthesis t c =
    rw (group_parenthesis c.args.levels c.args.qualifiers (kinds c.args.self.now.rest.now) (cc), c.in_ok-levels-in-Parenthesis.ensures, c.in_ok-expr-in-Parenthesis.ensures)
    (closed_gives tree_of c.close_after.result c.in_ok-expr-in-Parenthesis.expr c.args.qualifiers _ _ c.close_after.ensures)

pub group-returns-in_err-expr : goal.group-returns-in_err-expr
group-returns-in_err-expr t c = fails _ _ _ _ _ c.from_residual.ensures c.in_err-expr.ensures

pub group_term-returns-in_err-levels-in-Not : goal.group_term-returns-in_err-levels-in-Not
group_term-returns-in_err-levels-in-Not t c = rw (group_not c.args.levels c.args.qualifiers (kinds c.args.self.now.rest.now) (cc)) (fails _ _ _ _ _ c.from_residual.ensures c.in_err-levels-in-Not.ensures)

pub group_term-returns-in_err-expr-in-Not : goal.group_term-returns-in_err-expr-in-Not
group_term-returns-in_err-expr-in-Not t c = rw (group_not c.args.levels c.args.qualifiers (kinds c.args.self.now.rest.now) (cc), c.in_ok-levels-in-Not.ensures) (fails _ _ _ _ _ c.from_residual-in_err-expr-in-Not.ensures c.in_err-expr-in-Not.ensures)

pub group_term-returns-in_err-levels-in-Parenthesis : goal.group_term-returns-in_err-levels-in-Parenthesis
group_term-returns-in_err-levels-in-Parenthesis t c = rw (group_parenthesis c.args.levels c.args.qualifiers (kinds c.args.self.now.rest.now) (cc)) (fails _ _ _ _ _ c.from_residual-in_err-levels-in-Parenthesis.ensures c.in_err-levels-in-Parenthesis.ensures)

pub group_term-returns-in_err-identified-in-Primitive : goal.group_term-returns-in_err-identified-in-Primitive
group_term-returns-in_err-identified-in-Primitive t c = rw (group_identifier c.args.levels c.args.qualifiers (kinds c.args.self.now.rest.now) (cc)) (fails _ _ _ _ _ c.from_residual-in_err-identified-in-Primitive.ensures c.in_err-identified-in-Primitive.ensures)
