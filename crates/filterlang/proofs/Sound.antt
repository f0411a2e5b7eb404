-- What the reading function finds is what the grammar has.
use Rattle.std.proofs.Common.{◌≡◌, ℕ, zero, suc, Bool, true, false, List, [], ◌∷◌, Option, Some, None, refl, sym, ap, ◌∙◌, subst}
use Rattle.std.specs.Prelude.{IfSome, if◌then◌else◌}
use Rattle.filterlang.specs.declared.token.Kind.{Kind}
use Rattle.filterlang.specs.declared.token.Kind.TheVariants as kind
use Rattle.filterlang.specs.declared.token.Joint.{Joint}
use Rattle.filterlang.specs.declared.token.Joint.TheVariants.{And, Or}
use Rattle.filterlang.specs.declared.phrases.qualifiers.Qualifiers.{Qualifiers}
use Rattle.filterlang.specs.declared.phrases.qualifiers.Identifier.{Identifier}
use Rattle.filterlang.specs.declared.parser.Start.{Start}
use Rattle.filterlang.specs.declared.parser.Start.TheVariants as starts
use Rattle.filterlang.specs.Phrases.{identifier_at}
use Rattle.filterlang.specs.Qualifiers.{identified}
use Rattle.filter_tree.specs.Trees.{Tree, test, negation}
use Rattle.filterlang.specs.Grammar.{begins_relation, Group, group_one, group_and, group_or, GroupTerm, group_not, group_open, group_id, Expression, expr_one, expr_and, expr_or, Term, term_not, term_open, term_prim, term_group, term_relation, Reads, reads_nothing, reads_expr}
use Rattle.filterlang.specs.Readers.{◌>>=◌, nothing, closed}
use Rattle.filterlang.specs.ValueReading.{relation_at}
use Rattle.filterlang.specs.Reading.{joint_at, joints, joined_by, negated, identified_at, start_at, started, group_term_by, group_term_at, group_at, logical_by, without_inheritance, term_at, expr_at, whole, text_at}
use Rattle.std.proofs.lemmas.Option.{same_Some}
use Rattle.filterlang.proofs.Steps.{step, at_some, chained_keeps, closed_sound}
use Rattle.filterlang.proofs.ValueSound.{IsRelation, relation_sound}
use Rattle.filterlang.proofs.Starts.{Begun, start_begun, identified_sound}

-- the negation of what was read
negated_sound : {Q : Type 0} (P R : Tree → Q → List Kind → Type 0) (read : Option (Tree × Q × List Kind)) → IfSome read (λ u. P u.0 u.1 u.2) → ((t : Tree) (q : Q) (rest : List Kind) → P t q rest → R (negation t) q rest) → IfSome (negated read) (λ u. R u.0 u.1 u.2)
negated_sound P R read h next = step (λ u. P u.0 u.1 u.2) (λ u. R u.0 u.1 u.2) read (λ t. Some (negation t.0, t.1, t.2)) h (λ u k. next u.0 u.1 u.2 k)

-- a joint that is found is the first token
pub joint_is : (j : Joint) (mid ts : List Kind) → joint_at ts ≡ Some (j, mid) → ts ≡ kind.Joint j ∷ mid
joint_is j mid (kind.Joint i ∷ rest) e = ap (λ (p : Joint × List Kind). kind.Joint p.0 ∷ p.1) (same_Some (i, rest) (j, mid) e)
joint_is j mid ts e = absurd cc

-- a term of a group, whose qualifiers stay
abbrev pub IsGroupTerm : ℕ → Qualifiers → List Kind → Tree → Qualifiers → List Kind → Type 0
IsGroupTerm n g ts t h rest = (h ≡ g) × GroupTerm n g ts t rest

-- and a group
abbrev IsGroup : ℕ → Qualifiers → List Kind → Tree → Qualifiers → List Kind → Type 0
IsGroup n g ts t h rest = (h ≡ g) × Group n g ts t rest

-- one term more, by its word
group_joined : (n : ℕ) (j : Joint) (g h : Qualifiers) (ts mid rest : List Kind) (t u : Tree) → Group n g ts t (kind.Joint j ∷ mid) → IsGroupTerm n g mid u h rest → IsGroup n g ts (joined_by j t u) h rest
group_joined n And g h ts mid rest t u a b = (b.0, group_and a b.1)
group_joined n Or g h ts mid rest t u a b = (b.0, group_or a b.1)

-- what is found of a group is the grammar's, where its terms are
group_from_terms : (n : ℕ) → ((g : Qualifiers) (ts : List Kind) → IfSome (group_term_at n g ts) (λ u. IsGroupTerm n g ts u.0 u.1 u.2)) → (g : Qualifiers) (ts : List Kind) → IfSome (group_at n g ts) (λ u. IsGroup n g ts u.0 u.1 u.2)
group_from_terms n terms g ts =
    chained_keeps joints (group_term_at n) (IsGroup n g ts)
    (λ j t v h behind mid u k e f join. subst (λ x. IsGroup n g ts x u.1 u.2) (same_Some (joined_by j t u.0) v join)
    (group_joined n j g u.1 ts mid u.2 t u.0 (subst (λ x. Group n g ts t x) (joint_is j mid behind e) k.1) (at_some (λ v. IsGroupTerm n g mid v.0 v.1 v.2) (group_term_at n g mid) u (ap (λ x. group_term_at n x mid) (sym k.0) ∙ f) (terms g mid))))
    g ts (λ u e. let first = at_some (λ u. IsGroupTerm n g ts u.0 u.1 u.2) (group_term_at n g ts) u e (terms g ts) in (first.0, group_one first.1))

-- an identifier of a group
identifier_sound : (n : ℕ) (g : Qualifiers) (ts : List Kind) → IfSome {T = Tree × Qualifiers × List Kind} (identified_at g ts >>= λ p. Some (test p.0, g, p.1)) (λ u. IsGroupTerm n g ts u.0 u.1 u.2)
identifier_sound n g ts =
    step (λ p. (id : Identifier) × (identifier_at ts ≡ Some (id, p.1)) × (identified g id ≡ Some p.0)) (λ u. IsGroupTerm n g ts u.0 u.1 u.2) (identified_at g ts) (λ p. Some (test p.0, g, p.1)) (identified_sound g ts)
    (λ p h. (refl, group_id h.1 h.2))

-- a term one level farther out
group_term_from : (n : ℕ) → ((g : Qualifiers) (ts : List Kind) → IfSome (group_term_at n g ts) (λ u. IsGroupTerm n g ts u.0 u.1 u.2)) → (g : Qualifiers) (ts : List Kind) → IfSome (group_term_by (group_term_at n) g ts) (λ u. IsGroupTerm (suc n) g ts u.0 u.1 u.2)
group_term_from n terms g (kind.Not ∷ ts) = negated_sound (IsGroupTerm n g ts) (IsGroupTerm (suc n) g (kind.Not ∷ ts)) (group_term_at n g ts) (terms g ts) (λ t h rest k. (k.0, group_not k.1))
group_term_from n terms g (kind.Open ∷ ts) = closed_sound (IsGroup n g ts) (IsGroupTerm (suc n) g (kind.Open ∷ ts)) (group_at n g ts) (group_from_terms n terms g ts) (λ t h rest k. (k.0, group_open k.1))
group_term_from n terms g ts = identifier_sound (suc n) g ts

-- what is found of a group's term is the grammar's, at each nesting
pub group_term_reads : (n : ℕ) (g : Qualifiers) (ts : List Kind) → IfSome (group_term_at n g ts) (λ u. IsGroupTerm n g ts u.0 u.1 u.2)
unfolding group_term_at
group_term_reads zero g (kind.Not ∷ ts) = tt
group_term_reads zero g (kind.Open ∷ ts) = tt
group_term_reads zero g ts = identifier_sound zero g ts
group_term_reads (suc n) g ts = group_term_from n (group_term_reads n) g ts

-- terms of the whole
abbrev pub TermsRead : ℕ → Type 0
TermsRead n = (q : Option Qualifiers) (ts : List Kind) → IfSome (term_at n q ts) (λ u. Term n q ts u.0 u.1 u.2)

-- one term more of an expression, by its word
expr_joined : (n : ℕ) (j : Joint) (q r s : Option Qualifiers) (ts mid rest : List Kind) (t u : Tree) → Expression n q ts t r (kind.Joint j ∷ mid) → Term n r mid u s rest → Expression n q ts (joined_by j t u) s rest
expr_joined n And q r s ts mid rest t u a b = expr_and a b
expr_joined n Or q r s ts mid rest t u a b = expr_or a b

-- what is found of an expression is the grammar's, where its terms are
expr_from_terms : (n : ℕ) → TermsRead n → (q : Option Qualifiers) (ts : List Kind) → IfSome (expr_at n q ts) (λ u. Expression n q ts u.0 u.1 u.2)
expr_from_terms n terms q ts =
    chained_keeps joints (term_at n) (Expression n q ts)
    (λ j t v r behind mid u k e f join. subst (λ x. Expression n q ts x u.1 u.2) (same_Some (joined_by j t u.0) v join)
    (expr_joined n j q r u.1 ts mid u.2 t u.0 (subst (λ x. Expression n q ts t r x) (joint_is j mid behind e) k) (at_some (λ v. Term n r mid v.0 v.1 v.2) (term_at n r mid) u f (terms r mid))))
    q ts (λ u e. expr_one (at_some (λ v. Term n q ts v.0 v.1 v.2) (term_at n q ts) u e (terms q ts)))

-- a term that begins with no sign, at the innermost level, where no group may stand
start_zero : (q : Option Qualifiers) (ts : List Kind) → begins_relation ts ≡ false → IfSome (start_at q ts >>= λ s. started nothing s.0 s.1 s.2) (λ u. Term zero q ts u.0 u.1 u.2)
start_zero q ts e = step (λ s. Begun q ts s.0 s.1 s.2) (λ u. Term zero q ts u.0 u.1 u.2) (start_at q ts) (λ s. started nothing s.0 s.1 s.2) (start_begun q ts) (λ s h. at_start s.0 s.1 s.2 h)
  where
    at_start : (s : Start) (r : Option Qualifiers) (rest : List Kind) → Begun q ts s r rest → IfSome (started nothing s r rest) (λ u. Term zero q ts u.0 u.1 u.2)
    at_start (starts.Primitive p) r rest h = term_prim e h
    at_start (starts.Group g) r [] h = tt
    at_start (starts.Group g) r (sign ∷ rest) h = tt

-- a group after its phrase
group_begun : (n : ℕ) (q r : Option Qualifiers) (ts rest : List Kind) (g : Qualifiers) → begins_relation ts ≡ false → Begun q ts (starts.Group g) r rest → IfSome (started (group_term_at n) (starts.Group g) r rest) (λ u. Term (suc n) q ts u.0 u.1 u.2)
group_begun n q r ts [] g e (phrase, mid, a, w, f, b, c) = absurd cc
group_begun n q r ts (sign ∷ rest) g e (phrase, mid, a, w, f, b, c) =
    step (λ u. Group n g rest u.0 (kind.Close ∷ u.2)) (λ u. Term (suc n) q ts u.0 u.1 u.2) (closed (group_at n g rest)) (λ t. Some (t.0, r, t.2))
    (closed_sound (IsGroup n g rest) (λ t h behind. Group n g rest t (kind.Close ∷ behind)) (group_at n g rest) (group_from_terms n (group_term_reads n) g rest) (λ t h behind k. k.1))
    (λ u k. subst (λ x. Term (suc n) q ts u.0 x u.2) (sym b) (term_group e (a ∙ ap (λ x. (phrase, kind.Open ∷ x)) same) w f k))
  where
    same : mid ≡ rest
    same = cc

-- the same at the levels around it, where one may
start_within : (n : ℕ) (q : Option Qualifiers) (ts : List Kind) → begins_relation ts ≡ false → IfSome (start_at q ts >>= λ s. started (group_term_at n) s.0 s.1 s.2) (λ u. Term (suc n) q ts u.0 u.1 u.2)
start_within n q ts e = step (λ s. Begun q ts s.0 s.1 s.2) (λ u. Term (suc n) q ts u.0 u.1 u.2) (start_at q ts) (λ s. started (group_term_at n) s.0 s.1 s.2) (start_begun q ts) (λ s h. at_start s.0 s.1 s.2 h)
  where
    at_start : (s : Start) (r : Option Qualifiers) (rest : List Kind) → Begun q ts s r rest → IfSome (started (group_term_at n) s r rest) (λ u. Term (suc n) q ts u.0 u.1 u.2)
    at_start (starts.Primitive p) r rest h = term_prim e h
    at_start (starts.Group g) r rest h = group_begun n q r ts rest g e h

-- a term at the innermost level, which has no signs
logical_zero : (q : Option Qualifiers) (ts : List Kind) → begins_relation ts ≡ false → IfSome (logical_by nothing nothing q ts) (λ u. Term zero q ts u.0 u.1 u.2)
logical_zero q (kind.Not ∷ ts) e = tt
logical_zero q (kind.Open ∷ ts) e = tt
logical_zero q ts e = start_zero q ts e

-- a term that may have signs
logical_within : (n : ℕ) → TermsRead n → (q : Option Qualifiers) (ts : List Kind) → begins_relation ts ≡ false → IfSome (logical_by (term_at n) (group_term_at n) q ts) (λ u. Term (suc n) q ts u.0 u.1 u.2)
logical_within n terms q (kind.Not ∷ ts) e = negated_sound (Term n q ts) (Term (suc n) q (kind.Not ∷ ts)) (term_at n q ts) (terms q ts) (λ t r rest k. term_not k)
logical_within n terms q (kind.Open ∷ ts) e = closed_sound (Expression n q ts) (Term (suc n) q (kind.Open ∷ ts)) (expr_at n q ts) (expr_from_terms n terms q ts) (λ t r rest k. term_open e k)
logical_within n terms q ts e = start_within n q ts e

-- a relation, where one begins, and else the logical form
either_way : {Q : Type 0} (R : Tree × Q × List Kind → Type 0) (b : Bool) (related read : Option (Tree × Q × List Kind)) → (b ≡ true → IfSome related R) → (b ≡ false → IfSome read R) → IfSome (if b then related else read) R
either_way R true related read g h = g refl
either_way R false related read g h = h refl

-- a relation that is found
related : (n : ℕ) (q : Option Qualifiers) (ts : List Kind) → begins_relation ts ≡ true → IfSome (without_inheritance (relation_at n ts)) (λ u. Term n q ts u.0 u.1 u.2)
related n q ts e =
    step (λ t. IsRelation n ts t.0 t.1) (λ u. Term n q ts u.0 u.1 u.2) (relation_at n ts) (λ t. Some (t.0, None, t.1)) (relation_sound n ts)
    (λ t h. subst (λ x. Term n q ts x None t.1) (sym h.4) (term_relation e h.5 h.6))

-- what is found of a term is the grammar's, at each nesting
pub terms_read : (n : ℕ) → TermsRead n
unfolding term_at
terms_read zero q ts = either_way (λ u. Term zero q ts u.0 u.1 u.2) (begins_relation ts) _ (logical_by nothing nothing q ts) (related zero q ts) (logical_zero q ts)
terms_read (suc n) q ts = either_way (λ u. Term (suc n) q ts u.0 u.1 u.2) (begins_relation ts) _ (logical_by (term_at n) (group_term_at n) q ts) (related (suc n) q ts) (logical_within n (terms_read n) q ts)

-- the same, of what was found
pub group_term_sound : (n : ℕ) (g : Qualifiers) (ts : List Kind) (t : Tree) (h : Qualifiers) (rest : List Kind) → group_term_at n g ts ≡ Some (t, h, rest) → (h ≡ g) × GroupTerm n g ts t rest
group_term_sound n g ts t h rest e = at_some (λ u. IsGroupTerm n g ts u.0 u.1 u.2) (group_term_at n g ts) (t, h, rest) e (group_term_reads n g ts)

-- the same, of a term that was found
pub term_sound : (n : ℕ) (q : Option Qualifiers) (ts : List Kind) (t : Tree) (r : Option Qualifiers) (rest : List Kind) → term_at n q ts ≡ Some (t, r, rest) → Term n q ts t r rest
term_sound n q ts t r rest e = at_some (λ u. Term n q ts u.0 u.1 u.2) (term_at n q ts) (t, r, rest) e (terms_read n q ts)

-- an expression up to the end is the text's
whole_sound : (ts : List Kind) (read : Option (Tree × Option Qualifiers × List Kind)) → IfSome read (λ u. Expression 64 None ts u.0 u.1 u.2) → IfSome (whole read) (λ t. Reads ts t)
whole_sound ts None h = tt
whole_sound ts (Some u) h = at_end u.0 u.1 u.2 h
  where
    at_end : (t : Tree) (r : Option Qualifiers) (rest : List Kind) → Expression 64 None ts t r rest → IfSome (whole (Some (t, r, rest))) (λ t. Reads ts t)
    at_end t r [] h = reads_expr h
    at_end t r (k ∷ rest) h = tt

-- what is found of a text is the grammar's
text_reads : (ts : List Kind) → IfSome (text_at ts) (λ t. Reads ts t)
unfolding text_at
text_reads [] = reads_nothing
text_reads (k ∷ ts) = whole_sound (k ∷ ts) (expr_at 64 None (k ∷ ts)) (expr_from_terms 64 (terms_read 64) None (k ∷ ts))

-- the tree that is found is the grammar's
pub text_sound : (ts : List Kind) (t : Tree) → text_at ts ≡ Some t → Reads ts t
text_sound ts t e = at_some (λ t. Reads ts t) (text_at ts) t e (text_reads ts)
