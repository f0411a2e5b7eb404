-- The canonical text of a tree: operators and comparisons with a space on both sides, accessors without.
use Rattle.std.specs.Prelude.{ℕ, List, [], ◌++◌, if◌then◌else◌, codes}
use Rattle.std.specs.Fmt.{decimal}
use Rattle.filter_tree.specs.Trees.{Amount, number, wire_length, minus, binary, accessor, Tree, everything, test, relation, negation, both, either}
use Rattle.filter_print.specs.Types.{Parentheses, All, Needed, Operator, Comparison, Layer, Size, And, Or}
use Rattle.filter_print.specs.Types.operator
use Rattle.filter_print.specs.Types.comparison
use Rattle.filter_print.specs.Types.layers
use Rattle.filter_print.specs.Types.sizes
use Rattle.filter_print.specs.Primitives.{primitive_text}
use Rattle.filter_print.specs.Parentheses.{is_binary, left_enclosed, right_enclosed, side_enclosed, is_joined, first_enclosed, negated_enclosed, enclosed, joined, fits}

abbrev pub operator_text : Operator → List ℕ
operator_text operator.Plus = codes " + "
operator_text operator.Minus = codes " - "
operator_text operator.Times = codes " * "
operator_text operator.Divide = codes " / "
operator_text operator.Modulo = codes " % "
operator_text operator.BitAnd = codes " & "
operator_text operator.BitXor = codes " ^ "
operator_text operator.BitOr = codes " | "
operator_text operator.ShiftLeft = codes " << "
operator_text operator.ShiftRight = codes " >> "

abbrev pub comparison_text : Comparison → List ℕ
comparison_text comparison.Equal = codes " = "
comparison_text comparison.NotEqual = codes " != "
comparison_text comparison.Less = codes " < "
comparison_text comparison.Greater = codes " > "
comparison_text comparison.LessOrEqual = codes " <= "
comparison_text comparison.GreaterOrEqual = codes " >= "

-- a layer's word, and the bracket after it
abbrev pub layer_text : Layer → List ℕ
layer_text layers.Ether = codes "ether["
layer_text layers.Ip = codes "ip["
layer_text layers.Arp = codes "arp["
layer_text layers.Rarp = codes "rarp["
layer_text layers.Tcp = codes "tcp["
layer_text layers.Udp = codes "udp["
layer_text layers.Icmp = codes "icmp["

-- the size of an accessor, if it is not one byte, and the bracket after it
abbrev pub size_text : Size → List ℕ
size_text sizes.One = codes "]"
size_text sizes.Two = codes ":2]"
size_text sizes.Four = codes ":4]"

-- a value
unfoldable pub value_text : Parentheses → Amount → List ℕ
value_text parentheses (number n) = decimal n
value_text parentheses wire_length = codes "len"
value_text parentheses (minus v) = codes "-" ++ enclosed (is_binary v) (value_text parentheses v)
value_text parentheses (binary operator v w) =
    joined (left_enclosed parentheses operator v) (value_text parentheses v) (operator_text operator) (right_enclosed parentheses operator w) (value_text parentheses w)
value_text parentheses (accessor layer v size) = layer_text layer ++ value_text parentheses v ++ size_text size

-- a relation
abbrev pub relation_text : Parentheses → Comparison → Amount → Amount → List ℕ
relation_text parentheses comparison v w =
    joined (side_enclosed parentheses v) (value_text parentheses v) (comparison_text comparison) (side_enclosed parentheses w) (value_text parentheses w)

-- a tree, with these parentheses
unfoldable pub tree_text : Parentheses → Tree → List ℕ
tree_text parentheses everything = []
tree_text parentheses (test primitive) = primitive_text primitive
tree_text parentheses (relation comparison v w) = relation_text parentheses comparison v w
tree_text parentheses (negation t) = codes "not " ++ enclosed (negated_enclosed parentheses t) (tree_text parentheses t)
tree_text parentheses (both t u) =
    joined (first_enclosed parentheses And t) (tree_text parentheses t) (codes " and ") (is_joined u) (tree_text parentheses u)
tree_text parentheses (either t u) =
    joined (first_enclosed parentheses Or t) (tree_text parentheses t) (codes " or ") (is_joined u) (tree_text parentheses u)

-- all parentheses, if at most 64 signs are open within one another then, else only those that the grammar needs
abbrev pub parentheses_of : Tree → Parentheses
parentheses_of t = if fits All t 64 then All else Needed

-- the text of a tree, with the parentheses that are chosen for it
unfoldable pub canonical : Tree → List ℕ
canonical t = tree_text (parentheses_of t) t
