-- What a value leaves is no longer than what it was read from.
use Rattle.std.proofs.Common.{ℕ, Bool, true, false, ◌<◌, ◌≤◌, List, ◌∷◌, length, Some, None, arith}
use Rattle.std.specs.Prelude.{◌==◌, IfSome, if◌then◌else◌}
use Rattle.filterlang.specs.declared.token.Kind.{Kind}
use Rattle.filterlang.specs.declared.token.Kind.TheVariants as kind
use Rattle.filter_tree.specs.declared.tree.Operator.{Operator}
use Rattle.filter_tree.specs.Trees.{Amount}
use Rattle.filterlang.specs.Operators.{precedence_of}
use Rattle.filterlang.specs.Values.{Arith, arith_number, arith_named, arith_length, arith_minus, arith_open, arith_byte, arith_bytes, arith_tighter, arith_binary}
use Rattle.filterlang.specs.ValueReading.{operators, arith_at}
use Rattle.filterlang.proofs.Steps.{weaken}
use Rattle.filterlang.proofs.Chains.{Shortens, AreShorter}
use Rattle.filterlang.proofs.ValueSound.{arith_reads}

-- by the grammar
pub Arith-shorter : {n p : ℕ} {ts rest : List Kind} {v : Amount} → Arith n p ts v rest → length rest ≤ length ts
Arith-shorter arith_number = omega arith
Arith-shorter arith_named = omega arith
Arith-shorter arith_length = omega arith
Arith-shorter (arith_minus h) = omega (arith, Arith-shorter h)
Arith-shorter (arith_open h) = omega (arith, Arith-shorter h)
Arith-shorter (arith_byte e h) = omega (arith, Arith-shorter h)
Arith-shorter (arith_bytes e h f) = omega (arith, Arith-shorter h)
Arith-shorter (arith_tighter h) = Arith-shorter h
Arith-shorter (arith_binary e h k b) = omega (arith, Arith-shorter h, Arith-shorter k)

-- and so for what the reading function leaves
pub arith_shortens : (n p : ℕ) → Shortens (arith_at n p)
arith_shortens n p q ts = weaken (λ u. Arith n p ts u.0 u.2) (λ u. length u.2 ≤ length ts) (arith_at n p q ts) (arith_reads n p q ts) (λ u h. Arith-shorter h)

-- operators leave less
pub operators_shorter : (p : ℕ) → AreShorter (operators p)
operators_shorter p (kind.Operator op ∷ ts) = at_test (precedence_of op == p)
  where
    at_test : (b : Bool) → IfSome {T = Operator × List Kind} (if b then Some (op, ts) else None) (λ s. length s.1 < length (kind.Operator op ∷ ts))
    at_test true = omega arith
    at_test false = tt
operators_shorter p ts = tt
