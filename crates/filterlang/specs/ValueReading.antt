-- Reading a value from the front of a list of tokens, by a function: it finds the grammar's value. A value inherits
-- nothing and has nothing to give.
use Rattle.std.specs.Prelude.{ℕ, zero, suc, ◌==◌, if◌then◌else◌, List, ◌∷◌, Option, Some, None}
use Rattle.filterlang.specs.Types.{Kind, Operator, Minus, Comparison, Layer, Size, One, Opening}
use Rattle.filterlang.specs.Types.kind
use Rattle.filterlang.specs.Types.openings
use Rattle.filter_tree.specs.Trees.{Tree, Amount, number, wire_length, minus, binary, accessor, relation}
use Rattle.filterlang.specs.Operators.{precedence_of, loosest, is_barred, layer_of, size_of}
use Rattle.filterlang.specs.Readers.{◌>>=◌, Reader, nothing, Joining, chained, closed, deeper, bare_number_at}

-- the operator of this precedence at the front
abbrev pub operator_at : ℕ → List Kind → Option (Operator × List Kind)
operator_at precedence (kind.Operator op ∷ rest) = if precedence_of op == precedence then Some (op, rest) else None
operator_at precedence rest = None

-- two values and the operator between them, unless it bars the right one
abbrev pub operated : Operator → Amount → Amount → Option Amount
operated op v w = if is_barred op w then None else Some (binary op v w)

-- the operators of one precedence
abbrev pub operators : ℕ → Joining Operator Amount
operators precedence = record { sign = operator_at precedence; join = operated }

abbrev pub comparison_at : List Kind → Option (Comparison × List Kind)
comparison_at (kind.Comparison comparison ∷ rest) = Some (comparison, rest)
comparison_at rest = None

abbrev pub close_bracket_at : List Kind → Option (Unit {0} × List Kind)
close_bracket_at (kind.CloseBracket ∷ rest) = Some (tt, rest)
close_bracket_at rest = None

-- a value of one token
abbrev pub leaf_at : Reader Amount (Unit {0})
leaf_at q (kind.Number n ∷ rest) = Some (number n, q, rest)
leaf_at q (kind.Named n ∷ rest) = Some (number n, q, rest)
leaf_at q (kind.Len ∷ rest) = Some (wire_length, q, rest)
leaf_at q rest = None

-- what the first token of a value says of it
abbrev pub opening : List Kind → Opening
opening (kind.Operator Minus ∷ tokens) = openings.Minus
opening (kind.Open ∷ tokens) = openings.Parenthesis
opening (kind.Protocol protocol ∷ tokens) = openings.Accessor
opening tokens = openings.Leaf

-- the layer of an accessor, up to its `[`
abbrev pub layer_at : List Kind → Option (Layer × List Kind)
layer_at (kind.Protocol protocol ∷ kind.OpenBracket ∷ rest) = layer_of protocol >>= λ layer. Some (layer, kind.OpenBracket ∷ rest)
layer_at rest = None

-- the size after an index: one byte, if none is written
abbrev pub size_at : List Kind → Option (Size × List Kind)
size_at (kind.Colon ∷ rest) = bare_number_at rest >>= λ n. size_of n.0 >>= λ size. Some (size, n.1)
size_at rest = Some (One, rest)

-- what is in the brackets after a layer, from its index on
abbrev pub bracketed : {Q : Type 0} → Layer → Option (Amount × Q × List Kind) → Option (Amount × Q × List Kind)
bracketed layer read =
    read >>= λ v. size_at v.2 >>= λ size. close_bracket_at size.1 >>= λ behind. Some (accessor layer v.0 size.0, v.1, behind.1)

abbrev pub negative : {Q : Type 0} → Option (Amount × Q × List Kind) → Option (Amount × Q × List Kind)
negative read = read >>= λ v. Some (minus v.0, v.1, v.2)

-- values and operators between them, up to a precedence, by a reader of values without operators
unfoldable pub arith_by : Reader Amount (Unit {0}) → ℕ → Reader Amount (Unit {0})
arith_by factor zero = factor
arith_by factor (suc p) = chained (operators (suc p)) (arith_by factor p)

-- a value without operators, by a reader of what lies a level deeper
abbrev pub factor_by : Reader Amount (Unit {0}) → Reader Amount (Unit {0})
factor_by inner q (kind.Operator Minus ∷ tokens) = negative (inner q tokens)
factor_by inner q (kind.Open ∷ tokens) = closed (arith_by inner loosest q tokens)
factor_by inner q (kind.Protocol protocol ∷ kind.OpenBracket ∷ tokens) = layer_of protocol >>= λ layer. bracketed layer (arith_by inner loosest q tokens)
factor_by inner q tokens = leaf_at q tokens

unfoldable pub factor_at : ℕ → Reader Amount (Unit {0})
factor_at zero = factor_by nothing
factor_at (suc n) = factor_by (factor_at n)

-- a value with operators up to a precedence
unfoldable pub arith_at : ℕ → ℕ → Reader Amount (Unit {0})
arith_at n p = arith_by (factor_at n) p

-- an accessor, as the parser goes
unfoldable pub accessor_at : ℕ → Reader Amount (Unit {0})
accessor_at n q tokens = layer_at tokens >>= λ layer. deeper n layer.1 >>= λ inner. bracketed layer.0 (arith_at inner.0 loosest q inner.1)

-- two values and the comparison between them
unfoldable pub relation_at : ℕ → List Kind → Option (Tree × List Kind)
relation_at n tokens =
    arith_at n loosest tt tokens >>= λ v.
    comparison_at v.2 >>= λ comparison.
    arith_at n loosest tt comparison.1 >>= λ w.
    Some (relation comparison.0 v.0 w.0, w.2)
