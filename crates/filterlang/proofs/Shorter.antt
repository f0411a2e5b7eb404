-- What a reading leaves is no longer than what it was given, so that joined terms come to an end.
use Rattle.std.proofs.Common.{◌≡◌, ℕ, suc, ◌≤◌, List, ◌∷◌, length, Option, Some, None, subst, arith, le_refl}
use Rattle.std.specs.Prelude.{IfSome}
use Rattle.filterlang.specs.declared.token.Kind.{Kind}
use Rattle.filterlang.specs.declared.token.Kind.TheVariants as kind
use Rattle.filterlang.specs.declared.token.Parts.{Parts}
use Rattle.filterlang.specs.declared.token.Side.{Side}
use Rattle.filter_tree.specs.declared.tree.Operator.TheVariants.{Divide, Minus}
use Rattle.filter_tree.specs.declared.tree.Direction.{Direction}
use Rattle.filter_tree.specs.declared.tree.Primitive.{Primitive}
use Rattle.filterlang.specs.declared.phrases.qualifiers.Phrase.{Phrase}
use Rattle.filterlang.specs.declared.phrases.qualifiers.Qualifiers.{Qualifiers}
use Rattle.filterlang.specs.Phrases.{protocol_at, type_at, longest, joined, direction_at, phrase_at, dotted_at, identifier_at}
use Rattle.filter_tree.specs.Trees.{Tree}
use Rattle.filterlang.specs.Grammar.{only_protocol, Prim, prim_plain, prim_broadcast, prim_ether_broadcast, prim_multicast, prim_ether_multicast, prim_ip_multicast, prim_less, prim_greater, prim_portrange, prim_phrase, prim_inherited, Group, group_one, group_and, group_or, GroupTerm, group_not, group_open, group_id, Expression, expr_one, expr_and, expr_or, Term, term_not, term_open, term_prim, term_group, term_relation}
use Rattle.filterlang.specs.Reading.{group_term_at, joints, term_at}
use Rattle.filterlang.specs.declared.phrases.qualifiers.Identifier.{Identifier}
use Rattle.filterlang.proofs.Steps.{weaken, at_some}
use Rattle.filterlang.proofs.Chains.{Shortens, AreShorter}
use Rattle.filterlang.proofs.ValueShorter.{Arith-shorter}
use Rattle.filterlang.proofs.Sound.{IsGroupTerm, group_term_reads, group_term_sound, terms_read, term_sound}

-- a protocol word leaves no more tokens than there were
protocol_shorter : (ts : List Kind) → length (protocol_at ts).1 ≤ length ts
protocol_shorter (kind.Protocol p ∷ ts) = omega arith
protocol_shorter ts = le_refl (length ts)

-- nor does a type word
type_shorter : (ts : List Kind) → length (type_at ts).1 ≤ length ts
type_shorter (kind.Type w ∷ ts) = omega arith
type_shorter ts = le_refl (length ts)

-- nor do three words of a direction, or the first alone
longest_shorter : (o : Option Direction) (first : Side) (rest later : List Kind) (n : ℕ) → length rest ≤ n → length later ≤ n → length (longest o first rest later).1 ≤ n
longest_shorter None first rest later n h k = h
longest_shorter (Some d) first rest later n h k = k

-- nor does a direction
direction_shorter : (ts : List Kind) → length (direction_at ts).1 ≤ length ts
direction_shorter (kind.Side a ∷ kind.Joint j ∷ kind.Side b ∷ ts) = longest_shorter (joined a j b) a (kind.Joint j ∷ kind.Side b ∷ ts) ts (suc (suc (suc (length ts)))) (omega arith) (omega arith)
direction_shorter (kind.Side a ∷ ts) = omega arith
direction_shorter ts = le_refl (length ts)

-- a phrase leaves no more tokens than there were
pub phrase_shorter : (ts : List Kind) → length (phrase_at ts).1 ≤ length ts
phrase_shorter ts =
    omega (arith, protocol_shorter ts, direction_shorter (protocol_at ts).1, type_shorter (direction_at (protocol_at ts).1).1)

-- nor does a dotted address
dotted_shorter : (a : ℕ) (p : Parts) (ts : List Kind) → IfSome (dotted_at a p ts) (λ id. length id.1 ≤ length ts)
dotted_shorter a p (kind.Operator Divide ∷ kind.Number b ∷ ts) = omega arith
dotted_shorter a p (kind.Operator Divide ∷ ts) = tt
dotted_shorter a p (kind.Mask ∷ kind.Dotted m q ∷ ts) = omega arith
dotted_shorter a p (kind.Mask ∷ ts) = tt
dotted_shorter a p ts = le_refl (length ts)

-- nor does any identifier
identifier_shorter : (ts : List Kind) → IfSome (identifier_at ts) (λ id. length id.1 ≤ length ts)
identifier_shorter (kind.Number n ∷ ts) = omega arith
identifier_shorter (kind.Ethernet a ∷ ts) = omega arith
identifier_shorter (kind.Name n ∷ ts) = omega arith
identifier_shorter (kind.Dotted a p ∷ ts) = weaken (λ id. length id.1 ≤ length ts) (λ id. length id.1 ≤ suc (length ts)) (dotted_at a p ts) (dotted_shorter a p ts) (λ id h. omega arith)
identifier_shorter ts = tt

-- the same, of what is known to follow a phrase
behind_phrase : (ts rest : List Kind) (phrase : Phrase) → phrase_at ts ≡ (phrase, rest) → length rest ≤ length ts
behind_phrase ts rest phrase e = subst (λ u. length u.1 ≤ length ts) e (phrase_shorter ts)

-- and an identifier
behind_identifier : (ts rest : List Kind) (id : Identifier) → identifier_at ts ≡ Some (id, rest) → length rest ≤ length ts
behind_identifier ts rest id e = at_some (λ u. length u.1 ≤ length ts) (identifier_at ts) (id, rest) e (identifier_shorter ts)

-- by the grammar
Prim-shorter : {q r : Option Qualifiers} {ts rest : List Kind} {p : Primitive} → Prim q ts p r rest → length rest ≤ length ts
Prim-shorter (prim_plain {ts = ts} {rest = rest} {protocol = protocol} e alone f) = behind_phrase ts rest (only_protocol protocol) e
Prim-shorter prim_broadcast = omega arith
Prim-shorter prim_ether_broadcast = omega arith
Prim-shorter prim_multicast = omega arith
Prim-shorter prim_ether_multicast = omega arith
Prim-shorter prim_ip_multicast = omega arith
Prim-shorter prim_less = omega arith
Prim-shorter prim_greater = omega arith
Prim-shorter (prim_portrange {ts = ts} {rest = rest} {phrase = phrase} {a = a} {b = b} e w f ports) = omega (arith, behind_phrase ts (kind.PortRange ∷ kind.Number a ∷ kind.Operator Minus ∷ kind.Number b ∷ rest) phrase e)
Prim-shorter (prim_phrase {ts = ts} {mid = mid} {rest = rest} {phrase = phrase} {id = id} e w f a b) = omega (arith, behind_phrase ts mid phrase e, behind_identifier mid rest id a)
Prim-shorter (prim_inherited {ts = ts} {rest = rest} {id = id} a b) = behind_identifier ts rest id a

mutual
  -- groups and their terms
  Group-shorter : {n : ℕ} {g : Qualifiers} {ts rest : List Kind} {t : Tree} → Group n g ts t rest → length rest ≤ length ts
  Group-shorter (group_one h) = GroupTerm-shorter h
  Group-shorter (group_and h k) = omega (arith, Group-shorter h, GroupTerm-shorter k)
  Group-shorter (group_or h k) = omega (arith, Group-shorter h, GroupTerm-shorter k)

  GroupTerm-shorter : {n : ℕ} {g : Qualifiers} {ts rest : List Kind} {t : Tree} → GroupTerm n g ts t rest → length rest ≤ length ts
  GroupTerm-shorter (group_not h) = omega (arith, GroupTerm-shorter h)
  GroupTerm-shorter (group_open h) = omega (arith, Group-shorter h)
  GroupTerm-shorter (group_id {ts = ts} {rest = rest} {id = id} a b) = behind_identifier ts rest id a

mutual
  -- expressions and their terms
  Expr-shorter : {n : ℕ} {q r : Option Qualifiers} {ts rest : List Kind} {t : Tree} → Expression n q ts t r rest → length rest ≤ length ts
  Expr-shorter (expr_one h) = Term-shorter h
  Expr-shorter (expr_and h k) = omega (arith, Expr-shorter h, Term-shorter k)
  Expr-shorter (expr_or h k) = omega (arith, Expr-shorter h, Term-shorter k)

  Term-shorter : {n : ℕ} {q r : Option Qualifiers} {ts rest : List Kind} {t : Tree} → Term n q ts t r rest → length rest ≤ length ts
  Term-shorter (term_not h) = omega (arith, Term-shorter h)
  Term-shorter (term_open e h) = omega (arith, Expr-shorter h)
  Term-shorter (term_prim e h) = Prim-shorter h
  Term-shorter (term_relation e h k) = omega (arith, Arith-shorter h, Arith-shorter k)
  Term-shorter (term_group {ts = ts} {mid = mid} {phrase = phrase} e a w f h) = omega (arith, behind_phrase ts (kind.Open ∷ mid) phrase a, Group-shorter h)

-- and so for what the reading function leaves
pub group_term_shorter : (n : ℕ) (g : Qualifiers) (ts : List Kind) (t : Tree) (r : Qualifiers) (rest : List Kind) → group_term_at n g ts ≡ Some (t, r, rest) → length rest ≤ length ts
group_term_shorter n g ts t r rest e = GroupTerm-shorter (group_term_sound n g ts t r rest e).1

-- the same of a term
pub term_shorter : (n : ℕ) (q : Option Qualifiers) (ts : List Kind) (t : Tree) (r : Option Qualifiers) (rest : List Kind) → term_at n q ts ≡ Some (t, r, rest) → length rest ≤ length ts
term_shorter n q ts t r rest e = Term-shorter (term_sound n q ts t r rest e)

-- `and` and `or` leave less than they were given
pub joints_shorter : AreShorter joints
joints_shorter (kind.Joint j ∷ ts) = omega arith
joints_shorter ts = tt

-- the readers of terms leave no more
pub group_term_shortens : (n : ℕ) → Shortens (group_term_at n)
group_term_shortens n g ts = weaken (λ u. IsGroupTerm n g ts u.0 u.1 u.2) (λ u. length u.2 ≤ length ts) (group_term_at n g ts) (group_term_reads n g ts) (λ u h. GroupTerm-shorter h.1)

-- the same of the terms of the whole
pub term_shortens : (n : ℕ) → Shortens (term_at n)
term_shortens n q ts = weaken (λ u. Term n q ts u.0 u.1 u.2) (λ u. length u.2 ≤ length ts) (term_at n q ts) (terms_read n q ts) (λ u h. Term-shorter h)
