-- The reading of values as the parser goes: by what a value begins with.
use Rattle.std.proofs.Common.{◌≡◌, ℕ, zero, suc, List, ◌∷◌, length, Option, Some, None, refl, sym, ap, subst, ◌<◌, ◌-◌, arith}
use Rattle.filterlang.specs.declared.token.Kind.{Kind}
use Rattle.filterlang.specs.declared.token.Kind.TheVariants as kind
use Rattle.filter_tree.specs.declared.tree.Operator.TheVariants.{Minus}
use Rattle.filter_tree.specs.declared.tree.Layer.{Layer}
use Rattle.filterlang.specs.declared.lookahead.Opening.TheVariants as openings
use Rattle.filter_tree.specs.Trees.{Amount}
use Rattle.filterlang.specs.Operators.{loosest, layer_of}
use Rattle.filterlang.specs.Readers.{◌>>=◌, nothing, chain, chained, closed, deeper}
use Rattle.filterlang.specs.ValueReading.{operators, opening, leaf_at, bracketed, negative, arith_by, factor_at, arith_at, accessor_at}
use Rattle.filterlang.proofs.ValueSound.{arith_nothing}

-- no operator is up to none
pub arith_none : (n p : ℕ) (q : Unit {0}) (ts : List Kind) → p ≡ 0 → arith_at n p q ts ≡ factor_at n q ts
unfolding arith_at arith_by
arith_none n p q ts none = ap (λ x. arith_by (factor_at n) x q ts) none

-- a first value, and what is joined to it
pub arith_first : (n p t : ℕ) (q r : Unit {0}) (ts rest : List Kind) (v : Amount) → p ≡ suc t → arith_at n t q ts ≡ Some (v, r, rest) → chain (operators p) (arith_at n t) (length rest) v r rest ≡ arith_at n p q ts
unfolding arith_at arith_by
arith_first n p t q r ts rest v above read = subst (λ x. chain (operators x) (arith_at n t) (length rest) v r rest ≡ arith_at n x q ts) (sym above) at_suc
  where
    at_suc : chain (operators (suc t)) (arith_at n t) (length rest) v r rest ≡ arith_at n (suc t) q ts
    at_suc = sym (ap (λ o. o >>= λ u. chain (operators (suc t)) (arith_by (factor_at n) t) (length u.2) u.0 u.1 u.2) read)

-- up to some operators: a first value, and all that are joined to it
pub arith_some : (n p : ℕ) (q : Unit {0}) (ts : List Kind) → 0 < p → arith_at n p q ts ≡ chained (operators p) (arith_at n (p - 1)) q ts
unfolding arith_at arith_by
arith_some n zero q ts some = absurd (omega arith)
arith_some n (suc p) q ts some = let same : p ≡ suc p - 1 = omega arith in ap (λ x. chained (operators (suc p)) (arith_by (factor_at n) x) q ts) same

-- a unary minus
pub factor_minus : (n : ℕ) (q : Unit {0}) (ts : List Kind) → opening ts ≡ openings.Minus → factor_at n q ts ≡ (deeper n ts >>= λ d. negative (factor_at d.0 q d.1))
unfolding factor_at
factor_minus zero q (kind.Operator Minus ∷ ts) h = refl
factor_minus (suc n) q (kind.Operator Minus ∷ ts) h = refl
factor_minus n q ts h = cc

-- a value in parentheses
pub factor_parenthesis : (n : ℕ) (q : Unit {0}) (ts : List Kind) → opening ts ≡ openings.Parenthesis → factor_at n q ts ≡ (deeper n ts >>= λ d. closed (arith_at d.0 loosest q d.1))
unfolding factor_at arith_at
factor_parenthesis zero q (kind.Open ∷ ts) h = ap (λ o. closed o) (arith_nothing loosest q ts)
factor_parenthesis (suc n) q (kind.Open ∷ ts) h = refl
factor_parenthesis n q (kind.Operator Minus ∷ ts) h = cc
factor_parenthesis n q ts h = cc

-- a layer that is found, with no level left for what comes after it
layer_zero : (o : Option Layer) (q : Unit {0}) (ts : List Kind) → (o >>= λ layer. bracketed layer (arith_by nothing loosest q ts)) ≡ (◌>>=◌ {A = Layer} {B = Layer × List Kind} o (λ layer. Some (layer, kind.OpenBracket ∷ ts)) >>= λ layer. deeper 0 layer.1 >>= λ inner. bracketed layer.0 (arith_at inner.0 loosest q inner.1))
layer_zero None q ts = refl
layer_zero (Some layer) q ts = ap (λ o. bracketed layer o) (arith_nothing loosest q ts)

-- the same, with a level left
layer_within : (n : ℕ) (o : Option Layer) (q : Unit {0}) (ts : List Kind) → (o >>= λ layer. bracketed layer (arith_by (factor_at n) loosest q ts)) ≡ (◌>>=◌ {A = Layer} {B = Layer × List Kind} o (λ layer. Some (layer, kind.OpenBracket ∷ ts)) >>= λ layer. deeper (suc n) layer.1 >>= λ inner. bracketed layer.0 (arith_at inner.0 loosest q inner.1))
unfolding arith_at
layer_within n None q ts = refl
layer_within n (Some layer) q ts = refl

-- an accessor
pub factor_accessor : (n : ℕ) (q : Unit {0}) (ts : List Kind) → opening ts ≡ openings.Accessor → factor_at n q ts ≡ accessor_at n q ts
unfolding factor_at accessor_at
factor_accessor zero q (kind.Protocol p ∷ kind.OpenBracket ∷ ts) h = layer_zero (layer_of p) q ts
factor_accessor (suc n) q (kind.Protocol p ∷ kind.OpenBracket ∷ ts) h = layer_within n (layer_of p) q ts
factor_accessor zero q (kind.Protocol p ∷ ts) h = refl
factor_accessor (suc n) q (kind.Protocol p ∷ ts) h = refl
factor_accessor n q (kind.Operator Minus ∷ ts) h = cc
factor_accessor n q ts h = cc

-- a value of one token
pub factor_leaf : (n : ℕ) (q : Unit {0}) (ts : List Kind) → opening ts ≡ openings.Leaf → factor_at n q ts ≡ leaf_at q ts
unfolding factor_at
factor_leaf zero q (kind.Operator Minus ∷ ts) h = cc
factor_leaf (suc n) q (kind.Operator Minus ∷ ts) h = cc
factor_leaf zero q (kind.Open ∷ ts) h = cc
factor_leaf (suc n) q (kind.Open ∷ ts) h = cc
factor_leaf zero q (kind.Protocol p ∷ kind.OpenBracket ∷ ts) h = cc
factor_leaf (suc n) q (kind.Protocol p ∷ kind.OpenBracket ∷ ts) h = cc
factor_leaf zero q ts h = refl
factor_leaf (suc n) q ts h = refl
