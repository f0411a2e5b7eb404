-- What the grammar has of a value is what the reading function finds, where no operator follows that would go on.
use Rattle.std.proofs.Common.{◌≡◌, ℕ, zero, suc, false, ◌<◌, List, ◌∷◌, length, Option, Some, None, refl, sym, ap, ◌∙◌, arith}
use Rattle.std.specs.Prelude.{if◌then◌else◌}
use Rattle.std.proofs.lemmas.Bool.{eq-eqb, ne_eqb}
use Rattle.filterlang.specs.declared.token.Kind.{Kind}
use Rattle.filterlang.specs.declared.token.Kind.TheVariants as kind
use Rattle.filter_tree.specs.declared.tree.Comparison.{Comparison}
use Rattle.filter_tree.specs.declared.tree.Operator.{Operator}
use Rattle.filter_tree.specs.declared.tree.Operator.TheVariants.{Minus}
use Rattle.filter_tree.specs.declared.tree.Size.{Size}
use Rattle.filter_tree.specs.Trees.{Amount, number, wire_length, relation, binary, accessor}
use Rattle.filterlang.specs.Operators.{precedence_of, loosest, is_barred}
use Rattle.filterlang.specs.Values.{Arith, arith_number, arith_named, arith_length, arith_minus, arith_open, arith_byte, arith_bytes, arith_tighter, arith_binary}
use Rattle.filterlang.specs.Readers.{◌>>=◌, chain, closed}
use Rattle.filterlang.specs.ValueReading.{operator_at, operated, operators, comparison_at, close_bracket_at, negative, bracketed, arith_by, factor_at, arith_at, relation_at}
use Rattle.filterlang.proofs.Chains.{chain_turn, chain_end}
use Rattle.filterlang.proofs.ValueShorter.{arith_shortens, operators_shorter}

-- no operator follows that binds more tightly than p
abbrev pub StopsBelow : ℕ → List Kind → Type 0
StopsBelow p rest = (k : ℕ) → k < p → operator_at k rest ≡ None

-- no operator follows
abbrev pub Stops : List Kind → Type 0
Stops rest = (k : ℕ) → operator_at k rest ≡ None

-- what is read after a value, up to a precedence
abbrev after : ℕ → ℕ → Amount → Unit {0} → List Kind → Option (Amount × Unit {0} × List Kind)
after n zero v q rest = Some (v, q, rest)
after n (suc p) v q rest = chain (operators (suc p)) (arith_at n p) (length rest) v q rest

-- which is nothing where no operator follows
settled : (n p : ℕ) (v : Amount) (q : Unit {0}) (rest : List Kind) → operator_at p rest ≡ None → after n p v q rest ≡ Some (v, q, rest)
settled n zero v q rest none = refl
settled n (suc p) v q rest none = chain_end (operators (suc p)) (arith_at n p) (length rest) v q rest none

-- an operator is found at its precedence
operator_found : (p : ℕ) (op : Operator) (mid : List Kind) → precedence_of op ≡ p → operator_at p (kind.Operator op ∷ mid) ≡ Some (op, mid)
operator_found p op mid e = ap (λ b. if b then Some (op, mid) else None) (eq-eqb (precedence_of op) p e)

-- and at no other
operator_passed : (k p : ℕ) (op : Operator) (mid : List Kind) → precedence_of op ≡ p → k < p → operator_at k (kind.Operator op ∷ mid) ≡ None
operator_passed k p op mid e less = ap (λ b. if b then Some (op, mid) else None) (ne_eqb (precedence_of op) k (λ same. omega arith))

-- two values are joined, where the operator bars none
operated_made : (op : Operator) (v w : Amount) → is_barred op w ≡ false → operated op v w ≡ Some (binary op v w)
operated_made op v w e = ap (λ b. if b then None else Some (binary op v w)) e

-- a value of the precedence below, and what is read after it
loosened : (n p : ℕ) (v : Amount) (q : Unit {0}) (ts rest : List Kind) → arith_at n p q ts ≡ Some (v, q, rest) → arith_at n (suc p) q ts ≡ after n (suc p) v q rest
unfolding arith_at arith_by
loosened n p v q ts rest e = ap (λ o. o >>= λ t. chain (operators (suc p)) (arith_by (factor_at n) p) (length t.2) t.0 t.1 t.2) e

-- a value without operators
without : (n : ℕ) (q : Unit {0}) (ts : List Kind) → arith_at n 0 q ts ≡ factor_at n q ts
unfolding arith_at arith_by
without n q ts = refl

-- a value of one token, at each nesting
number_read : (n k : ℕ) (q : Unit {0}) (rest : List Kind) → factor_at n q (kind.Number k ∷ rest) ≡ Some (number k, q, rest)
unfolding factor_at
number_read zero k q rest = refl
number_read (suc n) k q rest = refl

-- the same of a name
named_read : (n k : ℕ) (q : Unit {0}) (rest : List Kind) → factor_at n q (kind.Named k ∷ rest) ≡ Some (number k, q, rest)
unfolding factor_at
named_read zero k q rest = refl
named_read (suc n) k q rest = refl

-- and of len
length_read : (n : ℕ) (q : Unit {0}) (rest : List Kind) → factor_at n q (kind.Len ∷ rest) ≡ Some (wire_length, q, rest)
unfolding factor_at
length_read zero q rest = refl
length_read (suc n) q rest = refl

-- a value of the grammar is read, up to what follows it
arith_complete : {n p : ℕ} {ts rest : List Kind} {v : Amount} → Arith n p ts v rest → (q : Unit {0}) → StopsBelow p rest → arith_at n p q ts ≡ after n p v q rest
unfolding factor_at arith_at
arith_complete (arith_number {n = n} {k = k} {rest = rest}) q stops = without n q (kind.Number k ∷ rest) ∙ number_read n k q rest
arith_complete (arith_named {n = n} {k = k} {rest = rest}) q stops = without n q (kind.Named k ∷ rest) ∙ named_read n k q rest
arith_complete (arith_length {n = n} {rest = rest}) q stops = without n q (kind.Len ∷ rest) ∙ length_read n q rest
arith_complete (arith_minus {n = n} {ts = ts} h) q stops =
    without (suc n) q (kind.Operator Minus ∷ ts) ∙ ap (λ o. negative o) (sym (without n q ts) ∙ arith_complete h q (λ k less. absurd (omega arith)))
arith_complete (arith_open {n = n} {ts = ts} {rest = rest} {v = v} h) q stops =
    without (suc n) q (kind.Open ∷ ts) ∙ ap (λ o. closed o) (arith_complete h q (λ k less. refl) ∙ settled n loosest v q (kind.Close ∷ rest) refl)
arith_complete (arith_byte {n = n} {ts = ts} {rest = rest} {p = p} {layer = layer} {v = v} e h) q stops =
    without (suc n) q (kind.Protocol p ∷ kind.OpenBracket ∷ ts)
    ∙ ap (λ o. o >>= λ l. bracketed l (arith_at n loosest q ts)) e
    ∙ ap (λ o. bracketed layer o) (arith_complete h q (λ k less. refl) ∙ settled n loosest v q (kind.CloseBracket ∷ rest) refl)
arith_complete (arith_bytes {n = n} {k = m} {ts = ts} {rest = rest} {p = p} {layer = layer} {v = v} e h f) q stops =
    without (suc n) q (kind.Protocol p ∷ kind.OpenBracket ∷ ts)
    ∙ ap (λ o. o >>= λ l. bracketed l (arith_at n loosest q ts)) e
    ∙ ap (λ o. bracketed layer o) (arith_complete h q (λ k less. refl) ∙ settled n loosest v q (kind.Colon ∷ kind.Number m ∷ kind.CloseBracket ∷ rest) refl)
    ∙ ap (λ (o : Option Size). ◌>>=◌ {A = Size} {B = Size × List Kind} o (λ size. Some (size, kind.CloseBracket ∷ rest)) >>= λ size. close_bracket_at size.1 >>= λ behind. Some (accessor layer v size.0, q, behind.1)) f
arith_complete (arith_tighter {n = n} {p = p} {ts = ts} {rest = rest} {v = v} h) q stops =
    loosened n p v q ts rest (arith_complete h q (λ k less. stops k (omega arith)) ∙ settled n p v q rest (stops p (omega arith)))
arith_complete (arith_binary {n = n} {p = p} {ts = ts} {mid = mid} {rest = rest} {op = op} {v = v} {w = w} e h k b) q stops =
    arith_complete h q (λ i less. operator_passed i (suc p) op mid e less)
    ∙ chain_turn (operators (suc p)) (arith_at n p) (operators_shorter (suc p)) (arith_shortens n p) op v w (binary op v w) q q (kind.Operator op ∷ mid) mid rest (operator_found (suc p) op mid e)
    (arith_complete k q (λ i less. stops i (omega arith)) ∙ settled n p w q rest (stops p (omega arith))) (operated_made op v w b)

-- the same, where no operator follows
pub value_complete : {n : ℕ} {ts rest : List Kind} {v : Amount} → Arith n loosest ts v rest → (q : Unit {0}) → Stops rest → arith_at n loosest q ts ≡ Some (v, q, rest)
value_complete {n = n} {rest = rest} {v = v} h q stops = arith_complete h q (λ k less. stops k) ∙ settled n loosest v q rest (stops loosest)

-- a relation of the grammar is read
pub relation_complete : {n : ℕ} {ts mid rest : List Kind} {c : Comparison} {v w : Amount} → Arith n loosest ts v (kind.Comparison c ∷ mid) → Arith n loosest mid w rest → Stops rest → relation_at n ts ≡ Some (relation c v w, rest)
unfolding relation_at
relation_complete {n = n} {c = c} {v = v} h k stops =
    ap (λ o. o >>= λ x. comparison_at x.2 >>= λ d. arith_at n loosest tt d.1 >>= λ y. Some (relation d.0 x.0 y.0, y.2)) (value_complete h tt (λ i. refl))
    ∙ ap (λ o. o >>= λ y. Some (relation c v y.0, y.2)) (value_complete k tt stops)
