-- Reading a filter expression from the front of a list of tokens, by a function: it finds the grammar's tree.
--
-- A reading is what was read, what can be inherited after it, and the tokens that follow. There is none where
-- nothing can be read.
use Rattle.std.specs.Prelude.{ℕ, zero, suc, if◌then◌else◌, List, [], ◌∷◌, Option, Some, None, unwrap_or, min, max, is_none, is_some, ◌||◌, option_map, option_and_then}
use Rattle.filterlang.specs.Types.{Kind, Protocol, Parts, Side, Direction, Joint, And, Or, Minus, Plain, Primitive, SrcOrDst, Beginning, Phrase, Qualifiers, Start}
use Rattle.filterlang.specs.Types.kind
use Rattle.filterlang.specs.Types.protocols
use Rattle.filterlang.specs.Types.primitives
use Rattle.filterlang.specs.Types.beginnings
use Rattle.filterlang.specs.Types.starts
use Rattle.filterlang.specs.Phrases.{joined, phrase_at, identifier_at}
use Rattle.filterlang.specs.Primitives.{plain_of, stands_alone}
use Rattle.filterlang.specs.Qualifiers.{qualifiers_of, identified, transport_of, port_of}
use Rattle.filter_tree.specs.Trees.{Tree, everything, test, negation, both, either}
use Rattle.filterlang.specs.Grammar.{begins_relation, is_written}
use Rattle.filterlang.specs.Readers.{◌>>=◌, Reader, nothing, Joining, chained, closed, deeper, bare_number_at}
use Rattle.filterlang.specs.ValueReading.{relation_at}

abbrev pub address_at : List Kind → Option (ℕ × Parts × List Kind)
address_at (kind.Dotted address parts ∷ rest) = Some (address, parts, rest)
address_at rest = None

abbrev pub joint_at : List Kind → Option (Joint × List Kind)
joint_at (kind.Joint joint ∷ rest) = Some (joint, rest)
joint_at rest = None

abbrev pub side_at : List Kind → Option (Side × List Kind)
side_at (kind.Side side ∷ rest) = Some (side, rest)
side_at rest = None

-- what makes a direction of its first word and what follows
abbrev pub joined_at : Side → List Kind → Option (Direction × List Kind)
joined_at first tokens =
    joint_at tokens >>= λ joint.
    side_at joint.1 >>= λ second.
    joined first joint.0 second.0 >>= λ direction.
    Some (direction, second.1)

abbrev pub minus_at : List Kind → Option (Unit {0} × List Kind)
minus_at (kind.Operator Minus ∷ rest) = Some (tt, rest)
minus_at rest = None

-- the tokens after portrange, if they begin with it and the phrase before has no type
abbrev pub range_at : Phrase → List Kind → Option (List Kind)
range_at phrase (kind.PortRange ∷ rest) = if is_none phrase.type_word then Some rest else None
range_at phrase rest = None

-- the protocol of a phrase that is only a protocol word, if what follows leaves it a primitive
abbrev pub plain_at : Phrase → List Kind → Option Plain
plain_at phrase rest =
    if is_some phrase.direction || is_some phrase.type_word then None
    else option_and_then (λ protocol. if stands_alone protocol rest then plain_of protocol else None) phrase.protocol

-- broadcast or multicast after a protocol word
abbrev pub broadcast_at : Protocol → List Kind → Option (Primitive × List Kind)
broadcast_at protocols.Ether (kind.Broadcast ∷ rest) = Some (primitives.EtherBroadcast, rest)
broadcast_at protocols.Ether (kind.Multicast ∷ rest) = Some (primitives.EtherMulticast, rest)
broadcast_at protocols.Ip (kind.Multicast ∷ rest) = Some (primitives.IpMulticast, rest)
broadcast_at protocol rest = None

-- A primitive that takes no qualifiers, where one stands at the front: Some None where none does. There is no
-- reading where less or greater has no number.
abbrev pub unqualified_at : List Kind → Option (Option (Primitive × List Kind))
unqualified_at (kind.Broadcast ∷ rest) = Some (Some (primitives.EtherBroadcast, rest))
unqualified_at (kind.Multicast ∷ rest) = Some (Some (primitives.EtherMulticast, rest))
unqualified_at (kind.Less ∷ rest) = option_map (λ n. Some (primitives.Less n.0, n.1)) (bare_number_at rest)
unqualified_at (kind.Greater ∷ rest) = option_map (λ n. Some (primitives.Greater n.0, n.1)) (bare_number_at rest)
unqualified_at (kind.Protocol protocol ∷ rest) = Some (broadcast_at protocol rest)
unqualified_at rest = Some None

-- two trees and the word between them
abbrev pub joined_by : Joint → Tree → Tree → Tree
joined_by And t u = both t u
joined_by Or t u = either t u

-- `and` and `or` between trees
abbrev pub joints : Joining Joint Tree
joints = record { sign = joint_at; join = λ joint t u. Some (joined_by joint t u) }

abbrev pub negated : {Q : Type 0} → Option (Tree × Q × List Kind) → Option (Tree × Q × List Kind)
negated read = read >>= λ t. Some (negation t.0, t.1, t.2)

abbrev pub beginning : List Kind → Beginning
beginning (kind.Not ∷ tokens) = beginnings.Not
beginning (kind.Open ∷ tokens) = beginnings.Parenthesis
beginning tokens = beginnings.Primitive

-- an identifier under these qualifiers
unfoldable pub identified_at : Qualifiers → List Kind → Option (Primitive × List Kind)
identified_at g tokens = identifier_at tokens >>= λ id. identified g id.0 >>= λ p. Some (p, id.1)

abbrev pub port_at : List Kind → Option (ℕ × List Kind)
port_at tokens = bare_number_at tokens >>= λ n. port_of n.0 >>= λ port. Some (port, n.1)

-- two ports with a `-` between them, after a phrase and portrange
unfoldable pub portrange_at : Phrase → List Kind → Option (Primitive × List Kind)
portrange_at phrase tokens =
    transport_of phrase.protocol >>= λ transport.
    port_at tokens >>= λ first.
    minus_at first.1 >>= λ minus.
    port_at minus.1 >>= λ second.
    Some (primitives.Ports transport (unwrap_or phrase.direction SrcOrDst) (min first.0 second.0) (max first.0 second.0), second.1)

-- what follows a phrase: the `(` of a group, which is not gone past, or an identifier
abbrev pub under : Qualifiers → List Kind → Option (Start × List Kind)
under g tokens =
    elim (beginning tokens) [
      | beginnings.Parenthesis ↦ Some (starts.Group g, tokens)
      | beginnings.Not ↦ identified_at g tokens >>= λ p. Some (starts.Primitive p.0, p.1)
      | beginnings.Primitive ↦ identified_at g tokens >>= λ p. Some (starts.Primitive p.0, p.1)
    ]

-- a primitive, or the phrase of a group, with what can be inherited after it
abbrev pub Starting : Type 0
Starting = Option (Start × Option Qualifiers × List Kind)

-- a primitive that has no qualifiers to give
abbrev pub without_qualifiers : Option (Primitive × List Kind) → Starting
without_qualifiers read = read >>= λ p. Some (starts.Primitive p.0, None, p.1)

abbrev pub qualified_at : Phrase → List Kind → Starting
qualified_at phrase tokens = qualifiers_of phrase >>= λ g. under g tokens >>= λ s. Some (s.0, Some g, s.1)

-- an identifier without a phrase
abbrev pub inherited_at : Option Qualifiers → List Kind → Starting
inherited_at q tokens = q >>= λ g. identified_at g tokens >>= λ p. Some (starts.Primitive p.0, q, p.1)

-- what begins with a phrase, which the rest follows, or with an identifier without one
abbrev pub phrased_by : Option Qualifiers → List Kind → Phrase → List Kind → Starting
phrased_by q tokens phrase rest =
    elim (plain_at phrase rest) [
      | Some plain ↦ Some (starts.Primitive (primitives.Protocol plain), None, rest)
      | None ↦ elim (range_at phrase rest) [
        | Some behind ↦ without_qualifiers (portrange_at phrase behind)
        | None ↦ if is_written phrase then qualified_at phrase rest else inherited_at q tokens
      ]
    ]

unfoldable pub phrased_at : Option Qualifiers → List Kind → Starting
phrased_at q tokens = phrased_by q tokens (phrase_at tokens).0 (phrase_at tokens).1

-- what a term begins with that is neither negated nor in parentheses
unfoldable pub start_at : Option Qualifiers → List Kind → Starting
start_at q tokens = unqualified_at tokens >>= λ found. elim found [ Some p ↦ without_qualifiers (Some p) | None ↦ phrased_at q tokens ]

-- a term of a group, by a reader of what lies a level deeper
abbrev pub group_term_by : Reader Tree Qualifiers → Reader Tree Qualifiers
group_term_by inner g (kind.Not ∷ tokens) = negated (inner g tokens)
group_term_by inner g (kind.Open ∷ tokens) = closed (chained joints inner g tokens)
group_term_by inner g tokens = identified_at g tokens >>= λ p. Some (test p.0, g, p.1)

unfoldable pub group_term_at : ℕ → Reader Tree Qualifiers
group_term_at zero = group_term_by nothing
group_term_at (suc n) = group_term_by (group_term_at n)

-- identifiers under one phrase
abbrev pub group_at : ℕ → Reader Tree Qualifiers
group_at n = chained joints (group_term_at n)

-- a primitive, or a phrase and its group, with this many levels left, as the parser goes
abbrev pub started_by : ℕ → Start → Reader Tree (Option Qualifiers)
started_by n (starts.Primitive p) q tokens = Some (test p, q, tokens)
started_by n (starts.Group g) q tokens = deeper n tokens >>= λ inner. closed (group_at inner.0 g inner.1) >>= λ t. Some (t.0, q, t.2)

-- what a term begins with, and the group after it if it is the phrase of one
abbrev pub started_at : ℕ → Reader Tree (Option Qualifiers)
started_at n q tokens = start_at q tokens >>= λ s. started_by n s.0 s.1 s.2

-- a primitive, or a phrase and its group
abbrev pub started : Reader Tree Qualifiers → Start → Reader Tree (Option Qualifiers)
started group (starts.Primitive p) q tokens = Some (test p, q, tokens)
started group (starts.Group g) q (sign ∷ tokens) = closed (chained joints group g tokens) >>= λ t. Some (t.0, q, t.2)
started group (starts.Group g) q [] = None

-- a term that is no relation, by readers of what lies a level deeper
abbrev pub logical_by : Reader Tree (Option Qualifiers) → Reader Tree Qualifiers → Reader Tree (Option Qualifiers)
logical_by inner group q (kind.Not ∷ tokens) = negated (inner q tokens)
logical_by inner group q (kind.Open ∷ tokens) = closed (chained joints inner q tokens)
logical_by inner group q tokens = start_at q tokens >>= λ s. started group s.0 s.1 s.2

-- a relation, which has no qualifiers to give
abbrev pub without_inheritance : Option (Tree × List Kind) → Option (Tree × Option Qualifiers × List Kind)
without_inheritance read = read >>= λ t. Some (t.0, None, t.1)

-- a term, by what it is as a relation and by readers of what lies a level deeper
abbrev pub term_by : (List Kind → Option (Tree × List Kind)) → Reader Tree (Option Qualifiers) → Reader Tree Qualifiers → Reader Tree (Option Qualifiers)
term_by related inner group q tokens = if begins_relation tokens then without_inheritance (related tokens) else logical_by inner group q tokens

unfoldable pub term_at : ℕ → Reader Tree (Option Qualifiers)
term_at zero = term_by (relation_at zero) nothing nothing
term_at (suc n) = term_by (relation_at (suc n)) (term_at n) (group_term_at n)

unfoldable pub logical_at : ℕ → Reader Tree (Option Qualifiers)
logical_at zero = logical_by nothing nothing
logical_at (suc n) = logical_by (term_at n) (group_term_at n)

-- terms joined by `and` and `or`
abbrev pub expr_at : ℕ → Reader Tree (Option Qualifiers)
expr_at n = chained joints (term_at n)

-- all of the tokens
abbrev pub whole : Option (Tree × Option Qualifiers × List Kind) → Option Tree
whole read = read >>= λ t. ended t.0 t.2
  where
    ended : Tree → List Kind → Option Tree
    ended t [] = Some t
    ended t (_ ∷ _) = None

unfoldable pub text_at : List Kind → Option Tree
text_at [] = Some everything
text_at tokens = whole (expr_at 64 None tokens)
