-- How much room an expression may take, and how much scratch memory.
use Rattle.std.specs.Prelude.{ℕ, ◌+◌, max}
use Rattle.filter_tree.specs.Trees.{Amount, number, wire_length, minus, binary, accessor, Tree, everything, test, relation, negation, both, either}

-- 20 for each accessor, 10 for each other sign of arithmetic; a number and `len` weigh nothing
abbrev pub value_weight : Amount → ℕ
value_weight (number n) = 0
value_weight wire_length = 0
value_weight (minus v) = 10 + value_weight v
value_weight (binary o v w) = 10 + (value_weight v + value_weight w)
value_weight (accessor layer v size) = 20 + value_weight v

-- 40 for each primitive, 10 for each comparison; `and`, `or`, `not` and the empty expression weigh nothing
abbrev pub weight : Tree → ℕ
weight everything = 0
weight (test primitive) = 40
weight (relation c v w) = 10 + (value_weight v + value_weight w)
weight (negation t) = weight t
weight (both t u) = weight t + weight u
weight (either t u) = weight t + weight u

-- how many cells of the scratch memory a value takes: while the right operand is computed, a cell keeps the left one
abbrev pub value_need : Amount → ℕ
value_need (number n) = 0
value_need wire_length = 0
value_need (minus v) = value_need v
value_need (binary o v w) = max (value_need v) (1 + value_need w)
value_need (accessor layer v size) = value_need v

-- the most that one of its relations takes
abbrev pub need : Tree → ℕ
need everything = 0
need (test primitive) = 0
need (relation c v w) = max (value_need v) (1 + value_need w)
need (negation t) = need t
need (both t u) = max (need t) (need u)
need (either t u) = max (need t) (need u)
