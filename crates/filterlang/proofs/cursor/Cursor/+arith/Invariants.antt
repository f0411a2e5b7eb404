use Rattle.std.proofs.Common.{◌≡◌, ◌+◌, ◌*◌, length}
use Rattle.filterlang.specs.Phrases.{kinds}
use Rattle.filter_tree.specs.Trees.{amount_of}
use Rattle.filterlang.specs.Readers.{chain}
use Rattle.filterlang.specs.ValueReading.{operators, arith_at}
use Rattle.filterlang.proofs.cursor.Cursor.+arith.Given as goal

-- Between two levels there is room for each precedence.
abbrev pub decreases-arith : goal.decreases-arith
decreases-arith l = 9 * l.levels + 2 + l.precedence

abbrev pub decreases-factor : goal.decreases-factor
decreases-factor l = 9 * l.levels + 1

abbrev pub decreases-accessor : goal.decreases-accessor
decreases-accessor l = 9 * l.levels

-- What is left, joined to what was read, is all.
abbrev pub invariant-arith-loop-operator : goal.invariant-arith-loop-operator
invariant-arith-loop-operator l =
    chain (operators l.precedence) (arith_at l.levels l.tighter) (length (kinds l.self.rest.now)) (amount_of l.value) tt (kinds l.self.rest.now)
    ≡ arith_at l.levels l.precedence tt (kinds l.fn.self.rest.now)

abbrev pub decreases-arith-loop-operator : goal.decreases-arith-loop-operator
decreases-arith-loop-operator l = length (kinds l.self.rest.now)
