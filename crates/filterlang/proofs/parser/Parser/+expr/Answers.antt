use Rattle.std.proofs.Common.{sym, ◌∙◌}
use Rattle.filterlang.specs.Phrases.{kinds}
use Rattle.filter_tree.specs.Trees.{tree_of}
use Rattle.filterlang.specs.Reading.{joints, term_at}
use Rattle.filterlang.proofs.Chains.{turn_shorter, chain_turn}
use Rattle.filterlang.proofs.Shorter.{joints_shorter, term_shortens}
use Rattle.filterlang.proofs.Turns.{logical_not, logical_parenthesis}
use Rattle.filterlang.proofs.Closing.{closed_gives, fails}
use Rattle.filterlang.proofs.parser.Parser.+expr.Goals as goal

pub expr-loop-joint-smaller : goal.expr-loop-joint-smaller
expr-loop-joint-smaller t c =
    turn_shorter joints (term_at c.args.levels) joints_shorter (term_shortens c.args.levels) _ _ _ _ _ _ _ (sym c.in-Some.ensures) c.in_ok-next.ensures

pub expr-loop-joint-preserved : goal.expr-loop-joint-preserved
expr-loop-joint-preserved t c =
    sym (chain_turn joints (term_at c.args.levels) joints_shorter (term_shortens c.args.levels) _ _ _ _ _ _ _ _ _ (sym c.in-Some.ensures) c.in_ok-next.ensures (rw c.in_ok-left.ensures.ok at c.in_ok-expr-2.ensures))
    ∙ c.loop-joint.invariant

pub logical-returns-in_ok-expr-in-Parenthesis : goal.logical-returns-in_ok-expr-in-Parenthesis
logical-returns-in_ok-expr-in-Parenthesis t c =
    rw (logical_parenthesis c.args.levels c.args.self.now.nearest (kinds c.args.self.now.cursor.rest.now) (cc), c.in_ok-levels-in-Parenthesis.ensures, c.in_ok-expr-in-Parenthesis.ensures)
    (closed_gives tree_of c.close_after.result c.in_ok-expr-in-Parenthesis.expr _ _ _ c.close_after.ensures)

pub expr-returns-in_err-expr : goal.expr-returns-in_err-expr
expr-returns-in_err-expr t c = fails _ _ _ _ _ c.from_residual.ensures c.in_err-expr.ensures

pub logical-returns-in_err-levels-in-Not : goal.logical-returns-in_err-levels-in-Not
logical-returns-in_err-levels-in-Not t c = rw (logical_not c.args.levels c.args.self.now.nearest (kinds c.args.self.now.cursor.rest.now) (cc)) (fails _ _ _ _ _ c.from_residual.ensures c.in_err-levels-in-Not.ensures)

pub logical-returns-in_err-expr-in-Not : goal.logical-returns-in_err-expr-in-Not
logical-returns-in_err-expr-in-Not t c = rw (logical_not c.args.levels c.args.self.now.nearest (kinds c.args.self.now.cursor.rest.now) (cc), c.in_ok-levels-in-Not.ensures) (fails _ _ _ _ _ c.from_residual-in_err-expr-in-Not.ensures c.in_err-expr-in-Not.ensures)

pub logical-returns-in_err-levels-in-Parenthesis : goal.logical-returns-in_err-levels-in-Parenthesis
logical-returns-in_err-levels-in-Parenthesis t c = rw (logical_parenthesis c.args.levels c.args.self.now.nearest (kinds c.args.self.now.cursor.rest.now) (cc)) (fails _ _ _ _ _ c.from_residual-in_err-levels-in-Parenthesis.ensures c.in_err-levels-in-Parenthesis.ensures)
