-- What the reading function finds of a value is what the grammar has.
use Rattle.std.proofs.Common.{◌≡◌, ℕ, zero, suc, Bool, true, false, List, ◌∷◌, length, Option, Some, None, refl, sym, ap, subst}
use Rattle.std.specs.Prelude.{◌==◌, IfSome, if◌then◌else◌}
use Rattle.std.proofs.lemmas.Bool.{eqb-true}
use Rattle.std.proofs.lemmas.Option.{same_Some}
use Rattle.filterlang.specs.declared.token.Kind.{Kind}
use Rattle.filterlang.specs.declared.token.Kind.TheVariants as kind
use Rattle.filter_tree.specs.declared.tree.Comparison.{Comparison}
use Rattle.filter_tree.specs.declared.tree.Operator.{Operator}
use Rattle.filter_tree.specs.declared.tree.Operator.TheVariants.{Minus}
use Rattle.filterlang.specs.declared.token.Protocol.{Protocol}
use Rattle.filter_tree.specs.declared.tree.Layer.{Layer}
use Rattle.filter_tree.specs.declared.tree.Size.{Size}
use Rattle.filter_tree.specs.Trees.{Tree, Amount, relation, minus, binary, accessor}
use Rattle.filterlang.specs.Operators.{precedence_of, loosest, is_barred, layer_of, size_of}
use Rattle.filterlang.specs.Values.{Arith, arith_number, arith_named, arith_length, arith_minus, arith_open, arith_byte, arith_bytes, arith_tighter, arith_binary}
use Rattle.filterlang.specs.Readers.{◌>>=◌, nothing, chain, closed}
use Rattle.filterlang.specs.ValueReading.{operator_at, operated, operators, comparison_at, close_bracket_at, leaf_at, size_at, bracketed, arith_by, factor_by, factor_at, arith_at, relation_at}
use Rattle.filterlang.proofs.Steps.{step, each_step, at_some, chained_keeps, closed_sound}

-- an operator that is found is the first token, and of that precedence
pub operator_is : (p : ℕ) (op : Operator) (mid ts : List Kind) → operator_at p ts ≡ Some (op, mid) → (precedence_of op ≡ p) × (ts ≡ kind.Operator op ∷ mid)
operator_is p op mid (kind.Operator o ∷ rest) e = at_test (precedence_of o == p) refl e
  where
    at_test : (b : Bool) → (precedence_of o == p) ≡ b → ◌≡◌ {A = Option (Operator × List Kind)} (if b then Some (o, rest) else None) (Some (op, mid)) → (precedence_of op ≡ p) × (kind.Operator o ∷ rest ≡ kind.Operator op ∷ mid)
    at_test true same f =
        let pair = same_Some (o, rest) (op, mid) f in
        let here : o ≡ op = ap (λ (x : Operator × List Kind). x.0) pair in
        (subst (λ x. precedence_of x ≡ p) here (eqb-true (precedence_of o) p same), ap (λ (x : Operator × List Kind). kind.Operator x.0 ∷ x.1) pair)
    at_test false same f = absurd cc
operator_is p op mid ts e = absurd cc

-- what is made of two values is the operator between them, which bars none
operated_is : (op : Operator) (v w u : Amount) → operated op v w ≡ Some u → (binary op v w ≡ u) × (is_barred op w ≡ false)
operated_is op v w u e = at_test (is_barred op w) refl e
  where
    at_test : (b : Bool) → is_barred op w ≡ b → ◌≡◌ {A = Option Amount} (if b then None else Some (binary op v w)) (Some u) → (binary op v w ≡ u) × (is_barred op w ≡ false)
    at_test true barred f = absurd cc
    at_test false barred f = (same_Some (binary op v w) u f, barred)

-- a comparison that is found is the first token
comparison_is : (c : Comparison) (mid ts : List Kind) → comparison_at ts ≡ Some (c, mid) → ts ≡ kind.Comparison c ∷ mid
comparison_is c mid (kind.Comparison d ∷ rest) e = ap (λ (p : Comparison × List Kind). kind.Comparison p.0 ∷ p.1) (same_Some (d, rest) (c, mid) e)
comparison_is c mid ts e = absurd cc

-- values without operators are the grammar's
abbrev pub FactorsRead : ℕ → Type 0
FactorsRead n = (q : Unit {0}) (ts : List Kind) → IfSome (factor_at n q ts) (λ u. Arith n 0 ts u.0 u.2)

-- then so are those with operators, up to each precedence
arith_from : (n : ℕ) → FactorsRead n → (p : ℕ) (q : Unit {0}) (ts : List Kind) → IfSome (arith_at n p q ts) (λ u. Arith n p ts u.0 u.2)
unfolding arith_at arith_by
arith_from n factors zero q ts = factors q ts
arith_from n factors (suc p) q ts =
    chained_keeps (operators (suc p)) (arith_by (factor_at n) p) (λ v r rest. Arith n (suc p) ts v rest)
    (λ op v x r behind mid u k e f join.
    let sign = operator_is (suc p) op mid behind e in
    let made = operated_is op v u.0 x join in
    subst (λ y. Arith n (suc p) ts y u.2) made.0 (arith_binary sign.0 (subst (λ y. Arith n (suc p) ts v y) sign.1 k) (at_some (λ w. Arith n p mid w.0 w.2) (arith_by (factor_at n) p r mid) u f (arith_from n factors p r mid)) made.1))
    q ts (λ u e. arith_tighter (at_some (λ w. Arith n p ts w.0 w.2) (arith_by (factor_at n) p q ts) u e (arith_from n factors p q ts)))

-- a value of one token
leaf_sound : (n : ℕ) (q : Unit {0}) (ts : List Kind) → IfSome (leaf_at q ts) (λ u. Arith n 0 ts u.0 u.2)
leaf_sound n q (kind.Number k ∷ ts) = arith_number
leaf_sound n q (kind.Named k ∷ ts) = arith_named
leaf_sound n q (kind.Len ∷ ts) = arith_length
leaf_sound n q ts = tt

-- what comes after an index makes an accessor of it
module _ (n : ℕ) (p : Protocol) (layer : Layer) (tokens : List Kind) (v : Amount) (q : Unit {0}) (is : layer_of p ≡ Some layer) where
  sized : (k : ℕ) (rest : List Kind) → Arith n loosest tokens v (kind.Colon ∷ kind.Number k ∷ rest) → (o : Option Size) → size_of k ≡ o
      → IfSome {T = Amount × Unit {0} × List Kind} (◌>>=◌ {A = Size} {B = Size × List Kind} o (λ size. Some (size, rest)) >>= λ size. close_bracket_at size.1 >>= λ behind. Some (accessor layer v size.0, q, behind.1)) (λ u. Arith (suc n) 0 (kind.Protocol p ∷ kind.OpenBracket ∷ tokens) u.0 u.2)
  sized k (kind.CloseBracket ∷ rest) h (Some size) e = arith_bytes is h e
  sized k rest h (Some size) e = tt
  sized k rest h None e = tt

  behind_index : (ts : List Kind) → Arith n loosest tokens v ts
      → IfSome {T = Amount × Unit {0} × List Kind} (size_at ts >>= λ size. close_bracket_at size.1 >>= λ behind. Some (accessor layer v size.0, q, behind.1)) (λ u. Arith (suc n) 0 (kind.Protocol p ∷ kind.OpenBracket ∷ tokens) u.0 u.2)
  behind_index (kind.CloseBracket ∷ rest) h = arith_byte is h
  behind_index (kind.Colon ∷ kind.Number k ∷ rest) h = sized k rest h (size_of k) refl
  behind_index ts h = tt

-- a value without operators, one level farther out
factor_from : (n : ℕ) → FactorsRead n → (q : Unit {0}) (ts : List Kind) → IfSome (factor_by (factor_at n) q ts) (λ u. Arith (suc n) 0 ts u.0 u.2)
unfolding arith_at
factor_from n factors q (kind.Operator Minus ∷ ts) =
    step (λ u. Arith n 0 ts u.0 u.2) (λ u. Arith (suc n) 0 (kind.Operator Minus ∷ ts) u.0 u.2) (factor_at n q ts) (λ v. Some (minus v.0, v.1, v.2)) (factors q ts) (λ u k. arith_minus k)
factor_from n factors q (kind.Open ∷ ts) =
    closed_sound (λ v r rest. Arith n loosest ts v rest) (λ v r rest. Arith (suc n) 0 (kind.Open ∷ ts) v rest) (arith_at n loosest q ts) (arith_from n factors loosest q ts) (λ v r rest k. arith_open k)
factor_from n factors q (kind.Protocol p ∷ kind.OpenBracket ∷ ts) =
    each_step (λ u. Arith (suc n) 0 (kind.Protocol p ∷ kind.OpenBracket ∷ ts) u.0 u.2) (layer_of p) (λ layer. bracketed layer (arith_at n loosest q ts))
    (λ layer e. step (λ u. Arith n loosest ts u.0 u.2) (λ u. Arith (suc n) 0 (kind.Protocol p ∷ kind.OpenBracket ∷ ts) u.0 u.2) (arith_at n loosest q ts) _ (arith_from n factors loosest q ts) (λ u k. behind_index n p layer ts u.0 u.1 e u.2 k))
factor_from n factors q ts = leaf_sound (suc n) q ts

-- where no value is read, none with operators is
pub arith_nothing : (p : ℕ) (q : Unit {0}) (ts : List Kind) → arith_by nothing p q ts ≡ None
unfolding arith_by
arith_nothing zero q ts = refl
arith_nothing (suc p) q ts = ap (λ o. o >>= λ t. chain (operators (suc p)) (arith_by nothing p) (length t.2) t.0 t.1 t.2) (arith_nothing p q ts)

-- what is found of a value without operators is the grammar's, at each nesting
pub factors_read : (n : ℕ) → FactorsRead n
unfolding factor_at
factors_read zero q (kind.Operator Minus ∷ ts) = tt
factors_read zero q (kind.Open ∷ ts) = subst (λ o. IfSome (closed o) (λ u. Arith zero 0 (kind.Open ∷ ts) u.0 u.2)) (sym (arith_nothing loosest q ts)) tt
factors_read zero q (kind.Protocol p ∷ kind.OpenBracket ∷ ts) =
    each_step (λ u. Arith zero 0 (kind.Protocol p ∷ kind.OpenBracket ∷ ts) u.0 u.2) (layer_of p) (λ layer. bracketed layer (arith_by nothing loosest q ts))
    (λ layer e. subst (λ o. IfSome (bracketed layer o) (λ u. Arith zero 0 (kind.Protocol p ∷ kind.OpenBracket ∷ ts) u.0 u.2)) (sym (arith_nothing loosest q ts)) tt)
factors_read zero q ts = leaf_sound zero q ts
factors_read (suc n) q ts = factor_from n (factors_read n) q ts

-- and of any value
pub arith_reads : (n p : ℕ) (q : Unit {0}) (ts : List Kind) → IfSome (arith_at n p q ts) (λ u. Arith n p ts u.0 u.2)
arith_reads n p q ts = arith_from n (factors_read n) p q ts

-- two values and the comparison between them
abbrev pub IsRelation : ℕ → List Kind → Tree → List Kind → Type 0
IsRelation n ts t rest = (c : Comparison) × (mid : List Kind) × (v : Amount) × (w : Amount) × (t ≡ relation c v w) × Arith n loosest ts v (kind.Comparison c ∷ mid) × Arith n loosest mid w rest

-- what is found of a relation is the grammar's
pub relation_sound : (n : ℕ) (ts : List Kind) → IfSome (relation_at n ts) (λ t. IsRelation n ts t.0 t.1)
unfolding relation_at
relation_sound n ts =
    each_step (λ t. IsRelation n ts t.0 t.1) (arith_at n loosest tt ts) _
    (λ v e. each_step (λ t. IsRelation n ts t.0 t.1) (comparison_at v.2) _
    (λ c f. each_step (λ t. IsRelation n ts t.0 t.1) (arith_at n loosest tt c.1) _
    (λ w g. (
      c.0,
      c.1,
      v.0,
      w.0,
      refl,
      subst (λ x. Arith n loosest ts v.0 x) (comparison_is c.0 c.1 v.2 f) (at_some (λ u. Arith n loosest ts u.0 u.2) (arith_at n loosest tt ts) v e (arith_reads n loosest tt ts)),
      at_some (λ u. Arith n loosest c.1 u.0 u.2) (arith_at n loosest tt c.1) w g (arith_reads n loosest tt c.1),
    ))))
