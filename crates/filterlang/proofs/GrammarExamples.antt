-- The grammar at worked examples.
use Rattle.std.proofs.Common.{ℕ, zero, suc, List, [], ◌∷◌, Some, None, refl}
use Rattle.filterlang.specs.declared.token.Kind.{Kind}
use Rattle.filterlang.specs.declared.token.Kind.TheVariants as kind
use Rattle.filterlang.specs.declared.token.Protocol.TheVariants as protocols
use Rattle.filterlang.specs.declared.token.TypeWord.TheVariants as types
use Rattle.filterlang.specs.declared.token.Side.TheVariants as side
use Rattle.filterlang.specs.declared.token.Parts.TheVariants.{Four}
use Rattle.filterlang.specs.declared.token.Joint.TheVariants.{And, Or}
use Rattle.filter_tree.specs.declared.tree.Primitive.TheVariants as primitives
use Rattle.filter_tree.specs.declared.tree.Transport.TheVariants as transports
use Rattle.filter_tree.specs.declared.tree.Direction.TheVariants.{Dst, SrcOrDst}
use Rattle.filter_tree.specs.declared.tree.Comparison.TheVariants.{Equal}
use Rattle.filter_tree.specs.declared.tree.Operator.TheVariants.{BitAnd, BitXor}
use Rattle.filter_tree.specs.Trees.{test, relation, number, binary, negation, both, either}
use Rattle.filterlang.specs.Values.{Arith, arith_number, arith_tighter, arith_binary}
use Rattle.filterlang.specs.Grammar.{Reads, reads_expr, expr_one, expr_and, expr_or, term_not, term_prim, term_group, term_relation, group_one, group_or, group_not, group_id, prim_phrase, prim_inherited}

-- tcp dst port 20 or 21
inherits : Reads (kind.Protocol protocols.Tcp ∷ kind.Side side.Dst ∷ kind.Type types.Port ∷ kind.Number 20 ∷ kind.Joint Or ∷ kind.Number 21 ∷ [])
    (either (test (primitives.Ports (Some transports.Tcp) Dst 20 20)) (test (primitives.Ports (Some transports.Tcp) Dst 21 21)))
inherits = reads_expr (expr_or (expr_one (term_prim refl (prim_phrase refl refl refl refl refl))) (term_prim refl (prim_inherited refl refl)))

-- not host 10.0.0.1 and 10.0.0.2
negates : Reads (kind.Not ∷ kind.Type types.Host ∷ kind.Dotted 167772161 Four ∷ kind.Joint And ∷ kind.Dotted 167772162 Four ∷ [])
    (both (negation (test (primitives.Net None SrcOrDst 167772161 4294967295))) (test (primitives.Net None SrcOrDst 167772162 4294967295)))
negates = reads_expr (expr_and (expr_one (term_not (term_prim refl (prim_phrase refl refl refl refl refl)))) (term_prim refl (prim_inherited refl refl)))

-- port (80 or not 443)
groups : Reads (kind.Type types.Port ∷ kind.Open ∷ kind.Number 80 ∷ kind.Joint Or ∷ kind.Not ∷ kind.Number 443 ∷ kind.Close ∷ [])
    (either (test (primitives.Ports None SrcOrDst 80 80)) (negation (test (primitives.Ports None SrcOrDst 443 443))))
groups = reads_expr (expr_one (term_group refl refl refl refl (group_or (group_one (group_id refl refl)) (group_not (group_id refl refl)))))

-- a number is a value at each precedence
number_up_to : (p : ℕ) {n k : ℕ} {rest : List Kind} → Arith n p (kind.Number k ∷ rest) (number k) rest
number_up_to zero = arith_number
number_up_to (suc p) = arith_tighter (number_up_to p)

-- 6 ^ 3 & 1 = 7
binds : Reads (kind.Number 6 ∷ kind.Operator BitXor ∷ kind.Number 3 ∷ kind.Operator BitAnd ∷ kind.Number 1 ∷ kind.Comparison Equal ∷ kind.Number 7 ∷ [])
    (relation Equal (binary BitXor (number 6) (binary BitAnd (number 3) (number 1))) (number 7))
binds = reads_expr (expr_one (term_relation refl (arith_tighter (arith_binary refl (number_up_to 5) (arith_binary refl (number_up_to 4) (number_up_to 3) refl) refl)) (number_up_to 6)))
