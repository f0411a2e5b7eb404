use Rattle.std.proofs.Common.{◌+◌, ◌*◌}
use Rattle.filter_tree.specs.Trees.{amount_of}
use Rattle.filtergen_code.specs.Parts.{value_cost, pair_cost}
use Rattle.filtergen_code.proofs.code.Code.+value.Given as goal

-- a value is looked at once more before it is computed
abbrev pub decreases-emit_value : goal.decreases-emit_value
decreases-emit_value l = 1 + 2 * value_cost (amount_of l.amount.now)

abbrev pub decreases-emit_variable : goal.decreases-emit_variable
decreases-emit_variable l = 2 * value_cost (amount_of l.amount.now)

abbrev pub decreases-emit_pair : goal.decreases-emit_pair
decreases-emit_pair l = 2 * pair_cost (amount_of l.left.now) (amount_of l.right.now)
