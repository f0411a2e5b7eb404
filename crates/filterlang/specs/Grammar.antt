-- The grammar of filter expressions after pcap-filter(7), a constructor for each alternative.
--
-- Each relation speaks of the tokens from a place on and of those that follow what is read there.
-- `Expression n q ts t r rest` says that ts begin with the expression t, that rest follows it, that at most n signs
-- are open within one another, and that q and r are the qualifiers that the nearest primitive to the left has
-- to give, before the expression and after it.
use Rattle.std.specs.Prelude.{◌≡◌, ℕ, zero, suc, Bool, ◌||◌, is_some, true, false, List, [], ◌∷◌, Option, Some, None, unwrap_or}
use Rattle.filterlang.specs.Types.{Kind, Comparison, Protocol, And, Or, Minus, Primitive, Plain, Transport, SrcOrDst, Phrase, Qualifiers, Identifier}
use Rattle.filterlang.specs.Types.kind
use Rattle.filterlang.specs.Types.protocols
use Rattle.filterlang.specs.Types.primitives
use Rattle.filter_tree.specs.Trees.{Tree, Amount, everything, test, relation, negation, both, either}
use Rattle.filterlang.specs.Phrases.{phrase_at, identifier_at}
use Rattle.filterlang.specs.Operators.{loosest}
use Rattle.filterlang.specs.Values.{Arith}
use Rattle.filterlang.specs.Primitives.{plain_of, stands_alone, ports_between}
use Rattle.filterlang.specs.Qualifiers.{qualifiers_of, identified, transport_of}

-- an operator of arithmetic, or a comparison
abbrev pub is_operator : Kind → Bool
is_operator (kind.Operator o) = true
is_operator (kind.Comparison c) = true
is_operator _ = false

abbrev pub operator_follows : List Kind → Bool
operator_follows [] = false
operator_follows (t ∷ ts) = is_operator t

abbrev pub bracket_follows : List Kind → Bool
bracket_follows (kind.OpenBracket ∷ ts) = true
bracket_follows _ = false

-- the tokens after the `)` that matches, with this many further `(` open; none if no `)` does
abbrev pub after_matching : ℕ → List Kind → List Kind
after_matching depth [] = []
after_matching depth (kind.Open ∷ ts) = after_matching (suc depth) ts
after_matching zero (kind.Close ∷ ts) = ts
after_matching (suc depth) (kind.Close ∷ ts) = after_matching depth ts
after_matching depth (t ∷ ts) = after_matching depth ts

-- a term that is a relation, as its first tokens show
abbrev pub begins_relation : List Kind → Bool
begins_relation (kind.Open ∷ ts) = operator_follows (after_matching 0 ts)
begins_relation (kind.Number n ∷ ts) = operator_follows ts
begins_relation (kind.Operator Minus ∷ ts) = true
begins_relation (kind.Len ∷ ts) = true
begins_relation (kind.Named n ∷ ts) = true
begins_relation (kind.Protocol p ∷ ts) = bracket_follows ts
begins_relation _ = false

abbrev pub only_protocol : Protocol → Phrase
only_protocol protocol = record { protocol = Some protocol; direction = None; type_word = None }

-- a phrase that is not empty
abbrev pub is_written : Phrase → Bool
is_written phrase = is_some phrase.protocol || is_some phrase.direction || is_some phrase.type_word

-- A primitive that is no relation and has no group, and what it has to give. Above each constructor stands the line of the grammar that it is.
pub data Prim : Option Qualifiers → List Kind → Primitive → Option Qualifiers → List Kind → Type 0 where
  -- prim := ip | arp | rarp | tcp | udp | icmp | sctp
  prim_plain : {q : Option Qualifiers} {ts rest : List Kind} {protocol : Protocol} {p : Plain}
      → phrase_at ts ≡ (only_protocol protocol, rest) → stands_alone protocol rest ≡ true → plain_of protocol ≡ Some p
      → Prim q ts (primitives.Protocol p) None rest
  -- prim := broadcast
  prim_broadcast : {q : Option Qualifiers} {rest : List Kind}
      → Prim q (kind.Broadcast ∷ rest) primitives.EtherBroadcast None rest
  -- prim := ether broadcast
  prim_ether_broadcast : {q : Option Qualifiers} {rest : List Kind}
      → Prim q (kind.Protocol protocols.Ether ∷ kind.Broadcast ∷ rest) primitives.EtherBroadcast None rest
  -- prim := multicast
  prim_multicast : {q : Option Qualifiers} {rest : List Kind}
      → Prim q (kind.Multicast ∷ rest) primitives.EtherMulticast None rest
  -- prim := ether multicast
  prim_ether_multicast : {q : Option Qualifiers} {rest : List Kind}
      → Prim q (kind.Protocol protocols.Ether ∷ kind.Multicast ∷ rest) primitives.EtherMulticast None rest
  -- prim := ip multicast
  prim_ip_multicast : {q : Option Qualifiers} {rest : List Kind}
      → Prim q (kind.Protocol protocols.Ip ∷ kind.Multicast ∷ rest) primitives.IpMulticast None rest
  -- prim := less NUMBER
  prim_less : {q : Option Qualifiers} {rest : List Kind} {n : ℕ}
      → Prim q (kind.Less ∷ kind.Number n ∷ rest) (primitives.Less n) None rest
  -- prim := greater NUMBER
  prim_greater : {q : Option Qualifiers} {rest : List Kind} {n : ℕ}
      → Prim q (kind.Greater ∷ kind.Number n ∷ rest) (primitives.Greater n) None rest
  -- prim := phrase id
  prim_phrase : {q : Option Qualifiers} {ts mid rest : List Kind} {phrase : Phrase} {g : Qualifiers} {id : Identifier} {p : Primitive}
      → phrase_at ts ≡ (phrase, mid) → is_written phrase ≡ true → qualifiers_of phrase ≡ Some g
      → identifier_at mid ≡ Some (id, rest) → identified g id ≡ Some p
      → Prim q ts p (Some g) rest
  -- prim := id
  prim_inherited : {ts rest : List Kind} {g : Qualifiers} {id : Identifier} {p : Primitive}
      → identifier_at ts ≡ Some (id, rest) → identified g id ≡ Some p
      → Prim (Some g) ts p (Some g) rest
  -- prim := [proto] [dir] portrange NUMBER "-" NUMBER
  prim_portrange : {q : Option Qualifiers} {ts rest : List Kind} {phrase : Phrase} {t : Option Transport} {a b : ℕ} {p : Primitive}
      → phrase_at ts ≡ (phrase, kind.PortRange ∷ kind.Number a ∷ kind.Operator Minus ∷ kind.Number b ∷ rest)
      → phrase.type_word ≡ None → transport_of phrase.protocol ≡ Some t
      → ports_between t (unwrap_or phrase.direction SrcOrDst) a b ≡ Some p
      → Prim q ts p None rest

mutual
  -- identifiers under one phrase, which each of them takes
  pub data Group : ℕ → Qualifiers → List Kind → Tree → List Kind → Type 0 where
    group_one : {n : ℕ} {g : Qualifiers} {ts rest : List Kind} {t : Tree}
        → GroupTerm n g ts t rest → Group n g ts t rest
    group_and : {n : ℕ} {g : Qualifiers} {ts mid rest : List Kind} {t u : Tree}
        → Group n g ts t (kind.Joint And ∷ mid) → GroupTerm n g mid u rest
        → Group n g ts (both t u) rest
    group_or : {n : ℕ} {g : Qualifiers} {ts mid rest : List Kind} {t u : Tree}
        → Group n g ts t (kind.Joint Or ∷ mid) → GroupTerm n g mid u rest
        → Group n g ts (either t u) rest

  pub data GroupTerm : ℕ → Qualifiers → List Kind → Tree → List Kind → Type 0 where
    group_not : {n : ℕ} {g : Qualifiers} {ts rest : List Kind} {t : Tree}
        → GroupTerm n g ts t rest → GroupTerm (suc n) g (kind.Not ∷ ts) (negation t) rest
    group_open : {n : ℕ} {g : Qualifiers} {ts rest : List Kind} {t : Tree}
        → Group n g ts t (kind.Close ∷ rest) → GroupTerm (suc n) g (kind.Open ∷ ts) t rest
    group_id : {n : ℕ} {g : Qualifiers} {ts rest : List Kind} {id : Identifier} {p : Primitive}
        → identifier_at ts ≡ Some (id, rest) → identified g id ≡ Some p
        → GroupTerm n g ts (test p) rest

mutual
  -- terms joined from the left by `and` and `or`, which bind alike
  pub data Expression : ℕ → Option Qualifiers → List Kind → Tree → Option Qualifiers → List Kind → Type 0 where
    expr_one : {n : ℕ} {q r : Option Qualifiers} {ts rest : List Kind} {t : Tree}
        → Term n q ts t r rest → Expression n q ts t r rest
    expr_and : {n : ℕ} {q r s : Option Qualifiers} {ts mid rest : List Kind} {t u : Tree}
        → Expression n q ts t r (kind.Joint And ∷ mid) → Term n r mid u s rest
        → Expression n q ts (both t u) s rest
    expr_or : {n : ℕ} {q r s : Option Qualifiers} {ts mid rest : List Kind} {t u : Tree}
        → Expression n q ts t r (kind.Joint Or ∷ mid) → Term n r mid u s rest
        → Expression n q ts (either t u) s rest

  pub data Term : ℕ → Option Qualifiers → List Kind → Tree → Option Qualifiers → List Kind → Type 0 where
    term_not : {n : ℕ} {q r : Option Qualifiers} {ts rest : List Kind} {t : Tree}
        → Term n q ts t r rest → Term (suc n) q (kind.Not ∷ ts) (negation t) r rest
    term_open : {n : ℕ} {q r : Option Qualifiers} {ts rest : List Kind} {t : Tree}
        → begins_relation (kind.Open ∷ ts) ≡ false → Expression n q ts t r (kind.Close ∷ rest)
        → Term (suc n) q (kind.Open ∷ ts) t r rest
    term_prim : {n : ℕ} {q r : Option Qualifiers} {ts rest : List Kind} {p : Primitive}
        → begins_relation ts ≡ false → Prim q ts p r rest
        → Term n q ts (test p) r rest
    term_group : {n : ℕ} {q : Option Qualifiers} {ts mid rest : List Kind} {phrase : Phrase} {g : Qualifiers} {t : Tree}
        → begins_relation ts ≡ false → phrase_at ts ≡ (phrase, kind.Open ∷ mid) → is_written phrase ≡ true
        → qualifiers_of phrase ≡ Some g → Group n g mid t (kind.Close ∷ rest)
        → Term (suc n) q ts t (Some g) rest
    term_relation : {n : ℕ} {q : Option Qualifiers} {ts mid rest : List Kind} {c : Comparison} {v w : Amount}
        → begins_relation ts ≡ true → Arith n loosest ts v (kind.Comparison c ∷ mid) → Arith n loosest mid w rest
        → Term n q ts (relation c v w) None rest

-- The tokens of a text read as this tree: nothing accepts all, else they are one expression.
pub data Reads : List Kind → Tree → Type 0 where
  reads_nothing : Reads [] everything
  reads_expr : {ts : List Kind} {t : Tree} {r : Option Qualifiers} → Expression 64 None ts t r [] → Reads ts t
