use Rattle.std.proofs.Common.{sym, ◌∙◌, arith}
use Rattle.filterlang.specs.ValueReading.{operators, arith_at, accessor_at}
use Rattle.filterlang.proofs.Chains.{turn_shorter, chain_turn}
use Rattle.filterlang.proofs.ValueShorter.{operators_shorter, arith_shortens}
use Rattle.filterlang.proofs.ValueTurns.{arith_first}
use Rattle.filterlang.proofs.Closing.{fails}
use Rattle.filterlang.proofs.cursor.Cursor.+arith.Goals as goal

pub arith-loop-operator-init : goal.arith-loop-operator-init
arith-loop-operator-init t c = arith_first _ _ _ _ _ _ _ _ (omega arith) c.in_ok-value.ensures

pub arith-loop-operator-smaller : goal.arith-loop-operator-smaller
arith-loop-operator-smaller t c =
    turn_shorter (operators c.args.precedence) (arith_at c.args.levels _) (operators_shorter c.args.precedence) (arith_shortens c.args.levels _) _ _ _ _ _ _ _ (sym c.in-Some-operator_at.ensures) c.in_ok-right.ensures

pub arith-loop-operator-preserved : goal.arith-loop-operator-preserved
arith-loop-operator-preserved t c =
    sym (chain_turn (operators c.args.precedence) (arith_at c.args.levels _) (operators_shorter c.args.precedence) (arith_shortens c.args.levels _) _ _ _ _ _ _ _ _ _ (sym c.in-Some-operator_at.ensures) c.in_ok-right.ensures (rw c.in_ok-left.ensures.ok at c.in_ok-value-2.ensures))
    ∙ c.loop-operator.invariant

pub accessor-returns-in_err-layer : goal.accessor-returns-in_err-layer
unfolding accessor_at
accessor-returns-in_err-layer t c = fails _ _ _ _ _ c.from_residual.ensures c.in_err-layer.ensures

pub accessor-returns-in_err-levels : goal.accessor-returns-in_err-levels
unfolding accessor_at
accessor-returns-in_err-levels t c = rw c.in_ok-layer.ensures (fails _ _ _ _ _ c.from_residual-in_err-levels.ensures c.in_err-levels.ensures)
