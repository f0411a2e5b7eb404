-- What the grammar has is what the reading function finds.
use Rattle.std.proofs.Common.{◌≡◌, ℕ, zero, suc, true, false, List, [], ◌∷◌, length, Option, Some, None, refl, sym, ap, ◌∙◌}
use Rattle.std.specs.Prelude.{if◌then◌else◌}
use Rattle.std.proofs.lemmas.Option.{none-some}
use Rattle.filterlang.specs.declared.token.Kind.{Kind}
use Rattle.filterlang.specs.declared.token.Kind.TheVariants as kind
use Rattle.filterlang.specs.declared.token.Joint.{Joint}
use Rattle.filterlang.specs.declared.token.Joint.TheVariants.{And, Or}
use Rattle.filter_tree.specs.declared.tree.Primitive.{Primitive}
use Rattle.filterlang.specs.declared.phrases.qualifiers.Qualifiers.{Qualifiers}
use Rattle.filterlang.specs.declared.phrases.qualifiers.Identifier.{Identifier}
use Rattle.filterlang.specs.declared.parser.Start.{Start}
use Rattle.filterlang.specs.declared.parser.Start.TheVariants as starts
use Rattle.filterlang.specs.Phrases.{identifier_at}
use Rattle.filterlang.specs.Qualifiers.{identified}
use Rattle.filter_tree.specs.Trees.{Tree, test, relation}
use Rattle.filterlang.specs.Grammar.{begins_relation, Group, group_one, group_and, group_or, GroupTerm, group_not, group_open, group_id, Expression, expr_one, expr_and, expr_or, Term, term_not, term_open, term_prim, term_group, term_relation, Reads, reads_nothing, reads_expr}
use Rattle.filterlang.specs.Readers.{◌>>=◌, Reader, nothing, chain, closed}
use Rattle.filterlang.specs.ValueReading.{relation_at}
use Rattle.filterlang.specs.Reading.{joints, joined_by, negated, identified_at, start_at, started, group_term_by, group_term_at, group_at, logical_by, without_inheritance, term_by, term_at, expr_at, whole, text_at}
use Rattle.filterlang.proofs.Chains.{chain_turn}
use Rattle.filterlang.proofs.Shorter.{joints_shorter, group_term_shortens, term_shortens}
use Rattle.filterlang.proofs.ValueComplete.{Stops, relation_complete}
use Rattle.filterlang.proofs.Starts.{IsIdentifier, is_number, is_ethernet, is_name, is_dotted, is_identifier, identified_complete, start_complete, group_start_complete, not_started, open_started, nothing_started}

-- a turn of the loop, where a term of a group comes after the word
group_turn : (n : ℕ) (j : Joint) (t u : Tree) (q r : Qualifiers) (ts rest : List Kind) → group_term_at n q ts ≡ Some (u, r, rest) → chain joints (group_term_at n) (length (kind.Joint j ∷ ts)) t q (kind.Joint j ∷ ts) ≡ chain joints (group_term_at n) (length rest) (joined_by j t u) r rest
group_turn n j t u q r ts rest e = chain_turn joints (group_term_at n) joints_shorter (group_term_shortens n) j t u (joined_by j t u) q r (kind.Joint j ∷ ts) ts rest refl e refl

-- the same of a term
term_turn : (n : ℕ) (j : Joint) (t u : Tree) (q r : Option Qualifiers) (ts rest : List Kind) → term_at n q ts ≡ Some (u, r, rest) → chain joints (term_at n) (length (kind.Joint j ∷ ts)) t q (kind.Joint j ∷ ts) ≡ chain joints (term_at n) (length rest) (joined_by j t u) r rest
term_turn n j t u q r ts rest e = chain_turn joints (term_at n) joints_shorter (term_shortens n) j t u (joined_by j t u) q r (kind.Joint j ∷ ts) ts rest refl e refl

-- an identifier of a group, whatever stands within
identifier_term : (inner : Reader Tree Qualifiers) (g : Qualifiers) (ts : List Kind) → IsIdentifier ts → group_term_by inner g ts ≡ (identified_at g ts >>= λ p. Some (test p.0, g, p.1))
identifier_term inner g ts is_number = refl
identifier_term inner g ts is_ethernet = refl
identifier_term inner g ts is_name = refl
identifier_term inner g ts is_dotted = refl

-- an identifier that the qualifiers take is read in a group, at each nesting
identifier_read : (n : ℕ) (g : Qualifiers) (ts rest : List Kind) (id : Identifier) (p : Primitive) → identifier_at ts ≡ Some (id, rest) → identified g id ≡ Some p → group_term_at n g ts ≡ Some (test p, g, rest)
unfolding group_term_at
identifier_read n g ts rest id p a b = at_level n
  where
    found : ◌≡◌ {A = Option (Tree × Qualifiers × List Kind)} (identified_at g ts >>= λ p. Some (test p.0, g, p.1)) (Some (test p, g, rest))
    found = ap (λ o. o >>= λ x. Some (test x.0, g, x.1)) (identified_complete g ts rest id p a b)

    at_level : (n : ℕ) → group_term_at n g ts ≡ Some (test p, g, rest)
    at_level zero = identifier_term nothing g ts (is_identifier ts (id, rest) a) ∙ found
    at_level (suc n) = identifier_term (group_term_at n) g ts (is_identifier ts (id, rest) a) ∙ found

mutual
  unfolding group_term_at

  -- a group of the grammar is read, up to what follows it
  pub group_complete : {n : ℕ} {g : Qualifiers} {ts rest : List Kind} {t : Tree} → Group n g ts t rest → group_at n g ts ≡ chain joints (group_term_at n) (length rest) t g rest
  group_complete (group_one {n = n} h) = ap (λ o. o >>= λ u. chain joints (group_term_at n) (length u.2) u.0 u.1 u.2) (group_term_complete h)
  group_complete (group_and {n = n} {g = g} {mid = mid} {rest = rest} {t = t} {u = u} h k) = group_complete h ∙ group_turn n And t u g g mid rest (group_term_complete k)
  group_complete (group_or {n = n} {g = g} {mid = mid} {rest = rest} {t = t} {u = u} h k) = group_complete h ∙ group_turn n Or t u g g mid rest (group_term_complete k)

  -- and so is each term of it
  pub group_term_complete : {n : ℕ} {g : Qualifiers} {ts rest : List Kind} {t : Tree} → GroupTerm n g ts t rest → group_term_at n g ts ≡ Some (t, g, rest)
  group_term_complete (group_not h) = ap (λ o. negated o) (group_term_complete h)
  group_term_complete (group_open h) = ap (λ o. closed o) (group_complete h)
  group_term_complete (group_id {n = n} {g = g} {ts = ts} {rest = rest} {id = id} {p = p} a b) = identifier_read n g ts rest id p a b

-- a term that begins no relation, after what it begins with
term_started : (related : List Kind → Option (Tree × List Kind)) (inner : Reader Tree (Option Qualifiers)) (group : Reader Tree Qualifiers) (q : Option Qualifiers) (ts : List Kind) (s : Start × Option Qualifiers × List Kind) → begins_relation ts ≡ false → start_at q ts ≡ Some s → term_by related inner group q ts ≡ started group s.0 s.1 s.2
term_started related inner group q ts s e f = ap (λ b. if b then without_inheritance (related ts) else logical_by inner group q ts) e ∙ at_tokens ts f
  where
    at_tokens : (ts : List Kind) → start_at q ts ≡ Some s → logical_by inner group q ts ≡ started group s.0 s.1 s.2
    at_tokens (kind.Not ∷ ts) f = absurd (none-some s (sym (not_started q ts) ∙ f))
    at_tokens (kind.Open ∷ ts) f = absurd (none-some s (sym (open_started q ts) ∙ f))
    at_tokens ts f = ap (λ o. o >>= λ x. started group x.0 x.1 x.2) f

-- a primitive is read, at each nesting
primitive_read : (n : ℕ) (q r : Option Qualifiers) (ts rest : List Kind) (p : Primitive) → begins_relation ts ≡ false → start_at q ts ≡ Some (starts.Primitive p, r, rest) → term_at n q ts ≡ Some (test p, r, rest)
unfolding term_at
primitive_read zero q r ts rest p e f = term_started (relation_at zero) nothing nothing q ts (starts.Primitive p, r, rest) e f
primitive_read (suc n) q r ts rest p e f = term_started (relation_at (suc n)) (term_at n) (group_term_at n) q ts (starts.Primitive p, r, rest) e f

-- and so is a relation
relation_read : (n : ℕ) (q : Option Qualifiers) (ts rest : List Kind) (t : Tree) → begins_relation ts ≡ true → relation_at n ts ≡ Some (t, rest) → term_at n q ts ≡ Some (t, None, rest)
unfolding term_at
relation_read zero q ts rest t e f = ap (λ b. if b then without_inheritance (relation_at zero ts) else logical_by nothing nothing q ts) e ∙ ap (λ o. without_inheritance o) f
relation_read (suc n) q ts rest t e f = ap (λ b. if b then without_inheritance (relation_at (suc n) ts) else logical_by (term_at n) (group_term_at n) q ts) e ∙ ap (λ o. without_inheritance o) f

mutual
  unfolding term_at

  -- an expression of the grammar is read, up to what follows it
  pub expr_complete : {n : ℕ} {q r : Option Qualifiers} {ts rest : List Kind} {t : Tree} → Expression n q ts t r rest → Stops rest → expr_at n q ts ≡ chain joints (term_at n) (length rest) t r rest
  expr_complete (expr_one {n = n} h) stops = ap (λ o. o >>= λ u. chain joints (term_at n) (length u.2) u.0 u.1 u.2) (term_complete h stops)
  expr_complete (expr_and {n = n} {r = r} {s = s} {mid = mid} {rest = rest} {t = t} {u = u} h k) stops = expr_complete h (λ i. refl) ∙ term_turn n And t u r s mid rest (term_complete k stops)
  expr_complete (expr_or {n = n} {r = r} {s = s} {mid = mid} {rest = rest} {t = t} {u = u} h k) stops = expr_complete h (λ i. refl) ∙ term_turn n Or t u r s mid rest (term_complete k stops)

  -- and so is each term of it
  pub term_complete : {n : ℕ} {q r : Option Qualifiers} {ts rest : List Kind} {t : Tree} → Term n q ts t r rest → Stops rest → term_at n q ts ≡ Some (t, r, rest)
  term_complete (term_not h) stops = ap (λ o. negated o) (term_complete h stops)
  term_complete (term_open {n = n} {q = q} {ts = ts} e h) stops = ap (λ b. if b then without_inheritance (relation_at (suc n) (kind.Open ∷ ts)) else closed (expr_at n q ts)) e ∙ ap (λ o. closed o) (expr_complete h (λ i. refl))
  term_complete (term_prim {n = n} {q = q} {r = r} {ts = ts} {rest = rest} {p = p} e h) stops = primitive_read n q r ts rest p e (start_complete q ts p r rest h)
  term_complete (term_relation {n = n} {q = q} {ts = ts} {rest = rest} {c = c} {v = v} {w = w} e h k) stops = relation_read n q ts rest (relation c v w) e (relation_complete h k stops)
  term_complete (term_group {n = n} {q = q} {ts = ts} {mid = mid} {phrase = phrase} {g = g} e a w f h) stops =
      term_started (relation_at (suc n)) (term_at n) (group_term_at n) q ts (starts.Group g, Some g, kind.Open ∷ mid) e (group_start_complete q ts mid phrase g a w f)
      ∙ ap (λ o. closed o >>= λ u. Some (u.0, Some g, u.2)) (group_complete h)

-- no term begins with nothing
no_term : (n : ℕ) (q : Option Qualifiers) → term_at n q [] ≡ None
unfolding term_at
no_term zero q = ap (λ o. o >>= λ s. started nothing s.0 s.1 s.2) (nothing_started q)
no_term (suc n) q = ap (λ o. o >>= λ s. started (group_term_at n) s.0 s.1 s.2) (nothing_started q)

-- the grammar's tree is the one that is found
pub text_complete : (ts : List Kind) (t : Tree) → Reads ts t → text_at ts ≡ Some t
unfolding text_at
text_complete ts t reads_nothing = refl
text_complete ts t (reads_expr {r = r} h) = at_tokens ts (expr_complete h (λ i. refl))
  where
    at_tokens : (ts : List Kind) → expr_at 64 None ts ≡ Some (t, r, []) → text_at ts ≡ Some t
    at_tokens [] e = absurd (none-some (t, r, []) (sym (ap (λ o. o >>= λ u. chain joints (term_at 64) (length u.2) u.0 u.1 u.2) (no_term 64 None)) ∙ e))
    at_tokens (k ∷ ts) e = ap (λ o. whole o) e
