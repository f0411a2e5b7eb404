-- Trees of expressions, without where they lie in memory.
use Rattle.std.specs.Prelude.{ℕ}
use Rattle.filter_tree.specs.declared.tree.Comparison.{Comparison}
use Rattle.filter_tree.specs.declared.tree.Operator.{Operator}
use Rattle.filter_tree.specs.declared.tree.Primitive.{Primitive}
use Rattle.filter_tree.specs.declared.tree.Layer.{Layer}
use Rattle.filter_tree.specs.declared.tree.Size.{Size}
use Rattle.filter_tree.specs.declared.tree.Value.{Value, Number, Length, Negation', Binary', Accessor'}
use Rattle.filter_tree.specs.declared.tree.Expr.{Expr, Everything, Test, Relation, Not', And', Or'}

-- the values of arithmetic
pub data Amount : Type 0 where
  number : ℕ → Amount
  wire_length : Amount
  minus : Amount → Amount
  binary : Operator → Amount → Amount → Amount
  accessor : Layer → Amount → Size → Amount

pub data Tree : Type 0 where
  everything : Tree
  test : Primitive → Tree
  relation : Comparison → Amount → Amount → Tree
  negation : Tree → Tree
  both : Tree → Tree → Tree
  either : Tree → Tree → Tree

-- the value that a Value is
abbrev pub amount_of : Value → Amount
amount_of (Number n) = number n
amount_of Length = wire_length
amount_of (Negation' _ v) = minus (amount_of v)
amount_of (Binary' op _ v _ w) = binary op (amount_of v) (amount_of w)
amount_of (Accessor' layer _ v size) = accessor layer (amount_of v) size

-- the tree that an expression is
abbrev pub tree_of : Expr → Tree
tree_of Everything = everything
tree_of (Test p) = test p
tree_of (Relation c v w) = relation c (amount_of v) (amount_of w)
tree_of (Not' _ e) = negation (tree_of e)
tree_of (And' _ e _ f) = both (tree_of e) (tree_of f)
tree_of (Or' _ e _ f) = either (tree_of e) (tree_of f)
