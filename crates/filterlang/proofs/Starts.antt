-- What a term begins with that is neither negated nor in parentheses: the reading and the grammar are one.
use Rattle.std.proofs.Common.{◌≡◌, ◌⊎◌, inl, inr, ℕ, Bool, true, false, cond, List, [], ◌∷◌, Option, Some, None, refl, sym, ap, ◌∙◌}
use Rattle.std.specs.Prelude.{min, max, IfSome, is_none, unwrap_or, if◌then◌else◌}
use Rattle.std.proofs.lemmas.Option.{none-some}
use Rattle.filterlang.specs.declared.token.Kind.{Kind}
use Rattle.filterlang.specs.declared.token.Kind.TheVariants as kind
use Rattle.filter_tree.specs.declared.tree.EthernetAddress.{EthernetAddress}
use Rattle.filterlang.specs.declared.token.Protocol.{Protocol}
use Rattle.filterlang.specs.declared.token.Protocol.TheVariants as protocols
use Rattle.filterlang.specs.declared.token.TypeWord.{TypeWord}
use Rattle.filter_tree.specs.declared.tree.Operator.TheVariants.{Minus}
use Rattle.filterlang.specs.declared.token.Parts.{Parts}
use Rattle.filter_tree.specs.declared.tree.Direction.{Direction}
use Rattle.filter_tree.specs.declared.tree.Direction.TheVariants.{SrcOrDst}
use Rattle.filter_tree.specs.declared.tree.Transport.{Transport}
use Rattle.filter_tree.specs.declared.tree.Plain.{Plain}
use Rattle.filter_tree.specs.declared.tree.Primitive.{Primitive}
use Rattle.filter_tree.specs.declared.tree.Primitive.TheVariants as primitives
use Rattle.filterlang.specs.declared.phrases.qualifiers.Phrase.{Phrase}
use Rattle.filterlang.specs.declared.phrases.qualifiers.Qualifiers.{Qualifiers}
use Rattle.filterlang.specs.declared.phrases.qualifiers.Identifier.{Identifier}
use Rattle.filterlang.specs.declared.parser.Start.{Start}
use Rattle.filterlang.specs.declared.parser.Start.TheVariants as starts
use Rattle.filterlang.specs.Phrases.{phrase_at, identifier_at}
use Rattle.filterlang.specs.Primitives.{plain_of, stands_alone, ports_between}
use Rattle.filterlang.specs.Qualifiers.{qualifiers_of, identified, transport_of, port_of}
use Rattle.filterlang.specs.Grammar.{only_protocol, is_written, Prim, prim_plain, prim_broadcast, prim_ether_broadcast, prim_multicast, prim_ether_multicast, prim_ip_multicast, prim_less, prim_greater, prim_portrange, prim_phrase, prim_inherited}
use Rattle.filterlang.specs.Readers.{◌>>=◌, bare_number_at}
use Rattle.filterlang.specs.Reading.{identified_at, port_at, portrange_at, under, without_qualifiers, qualified_at, inherited_at, phrased_by, phrased_at, start_at, minus_at, range_at, plain_at, broadcast_at, unqualified_at}
use Rattle.filterlang.proofs.Steps.{step, each_step, weaken, at_some}

-- what was found is itself
itself : {A : Type 0} (o : Option A) → IfSome o (λ x. o ≡ Some x)
itself None = tt
itself (Some x) = refl

-- an identifier that the qualifiers take
abbrev pub Identified : Qualifiers → List Kind → Primitive → List Kind → Type 0
Identified g ts p rest = (id : Identifier) × (identifier_at ts ≡ Some (id, rest)) × (identified g id ≡ Some p)

-- what is found is an identifier that the qualifiers take
pub identified_sound : (g : Qualifiers) (ts : List Kind) → IfSome (identified_at g ts) (λ p. (id : Identifier) × (identifier_at ts ≡ Some (id, p.1)) × (identified g id ≡ Some p.0))
unfolding identified_at
identified_sound g ts =
    each_step (λ p. Identified g ts p.0 p.1) (identifier_at ts) (λ id. identified g id.0 >>= λ p. Some (p, id.1))
    (λ id e. each_step (λ p. Identified g ts p.0 p.1) (identified g id.0) (λ p. Some (p, id.1)) (λ p f. (id.0, e, f)))

-- such an identifier is found
pub identified_complete : (g : Qualifiers) (ts rest : List Kind) (id : Identifier) (p : Primitive) → identifier_at ts ≡ Some (id, rest) → identified g id ≡ Some p → identified_at g ts ≡ Some (p, rest)
unfolding identified_at
identified_complete g ts rest id p e f = ap (λ o. o >>= λ x. identified g x.0 >>= λ y. Some (y, x.1)) e ∙ ap (λ o. o >>= λ y. Some (y, rest)) f

-- two ports, as the grammar has them
portrange_reads : (phrase : Phrase) (t : Option Transport) (a b : ℕ) (rest : List Kind) → transport_of phrase.protocol ≡ Some t → portrange_at phrase (kind.Number a ∷ kind.Operator Minus ∷ kind.Number b ∷ rest) ≡ (ports_between t (unwrap_or phrase.direction SrcOrDst) a b >>= λ p. Some (p, rest))
unfolding portrange_at
portrange_reads phrase t a b rest e = at_ports (port_of a) (port_of b) refl refl
  where
    at_ports : (o p : Option ℕ) → port_of a ≡ o → port_of b ≡ p → portrange_at phrase (kind.Number a ∷ kind.Operator Minus ∷ kind.Number b ∷ rest) ≡ (ports_between t (unwrap_or phrase.direction SrcOrDst) a b >>= λ p. Some (p, rest))
    at_ports None p f g = rw (e, f)
    at_ports (Some x) None f g = rw (e, f, g)
    at_ports (Some x) (Some y) f g = rw (e, f, g)

-- ports that stand where they do in the grammar
abbrev pub Ranges : Phrase → List Kind → Primitive → List Kind → Type 0
Ranges phrase behind p rest = (t : Option Transport) × (a : ℕ) × (b : ℕ) × (behind ≡ kind.Number a ∷ kind.Operator Minus ∷ kind.Number b ∷ rest) × (transport_of phrase.protocol ≡ Some t) × (ports_between t (unwrap_or phrase.direction SrcOrDst) a b ≡ Some p)

-- a minus that is found is there
minus_sound : (ts : List Kind) → IfSome (minus_at ts) (λ m. ts ≡ kind.Operator Minus ∷ m.1)
minus_sound (kind.Operator Minus ∷ ts) = refl
minus_sound ts = tt

-- and a number
number_sound : (ts : List Kind) → IfSome (bare_number_at ts) (λ n. ts ≡ kind.Number n.0 ∷ n.1)
number_sound (kind.Number n ∷ ts) = refl
number_sound ts = tt

-- a number that is a port
abbrev IsPort : List Kind → ℕ → List Kind → Type 0
IsPort ts port rest = (a : ℕ) × (ts ≡ kind.Number a ∷ rest) × (port_of a ≡ Some port)

-- a port that is found is one
port_sound : (ts : List Kind) → IfSome (port_at ts) (λ n. IsPort ts n.0 n.1)
port_sound ts =
    each_step (λ n. IsPort ts n.0 n.1) (bare_number_at ts) (λ n. port_of n.0 >>= λ port. Some (port, n.1))
    (λ n e. each_step (λ p. IsPort ts p.0 p.1) (port_of n.0) (λ port. Some (port, n.1)) (λ p f. (n.0, at_some (λ n. ts ≡ kind.Number n.0 ∷ n.1) (bare_number_at ts) n e (number_sound ts), f)))

-- two ports and the minus between them, in either order
ports_found : (phrase : Phrase) (t : Option Transport) (ts : List Kind) (first second : ℕ × List Kind) (minus : List Kind) → transport_of phrase.protocol ≡ Some t → IsPort ts first.0 first.1 → first.1 ≡ kind.Operator Minus ∷ minus → IsPort minus second.0 second.1 → Ranges phrase ts (primitives.Ports t (unwrap_or phrase.direction SrcOrDst) (min first.0 second.0) (max first.0 second.0)) second.1
ports_found phrase t ts first second minus e (a, f, g) h (b, k, l) = (t, a, b, cc, e, rw (g, l) refl)

-- a range of ports that is found is the grammar's
pub portrange_sound : (phrase : Phrase) (ts : List Kind) → IfSome (portrange_at phrase ts) (λ p. Ranges phrase ts p.0 p.1)
unfolding portrange_at
portrange_sound phrase ts =
    each_step (λ p. Ranges phrase ts p.0 p.1) (transport_of phrase.protocol) _
    (λ t e. each_step (λ p. Ranges phrase ts p.0 p.1) (port_at ts) _
    (λ first f. each_step (λ p. Ranges phrase ts p.0 p.1) (minus_at first.1) _
    (λ minus g. each_step (λ p. Ranges phrase ts p.0 p.1) (port_at minus.1) _
    (λ second h. ports_found phrase t ts first second minus.1 e
    (at_some (λ n. IsPort ts n.0 n.1) (port_at ts) first f (port_sound ts))
    (at_some (λ m. first.1 ≡ kind.Operator Minus ∷ m.1) (minus_at first.1) minus g (minus_sound first.1))
    (at_some (λ n. IsPort minus.1 n.0 n.1) (port_at minus.1) second h (port_sound minus.1))))))

-- a protocol word that is a primitive of its own
abbrev IsPlain : Phrase → List Kind → Plain → Type 0
IsPlain phrase rest p = (protocol : Protocol) × (phrase ≡ only_protocol protocol) × (stands_alone protocol rest ≡ true) × (plain_of protocol ≡ Some p)

-- one that is found is one
plain_sound : (protocol : Option Protocol) (direction : Option Direction) (word : Option TypeWord) (rest : List Kind) → IfSome (plain_at (record { protocol = protocol; direction = direction; type_word = word }) rest) (λ p. IsPlain (record { protocol = protocol; direction = direction; type_word = word }) rest p)
plain_sound protocol (Some d) word rest = tt
plain_sound protocol None (Some w) rest = tt
plain_sound None None None rest = tt
plain_sound (Some protocol) None None rest = at_alone (stands_alone protocol rest) refl
  where
    at_alone : (b : Bool) → stands_alone protocol rest ≡ b → IfSome (cond b (plain_of protocol) None) (λ p. IsPlain (only_protocol protocol) rest p)
    at_alone false e = tt
    at_alone true e = weaken (λ p. plain_of protocol ≡ Some p) (λ p. IsPlain (only_protocol protocol) rest p) (plain_of protocol) (itself (plain_of protocol)) (λ p f. (protocol, refl, e, f))

-- a phrase before portrange has no type word
range_sound : (phrase : Phrase) (ts : List Kind) → IfSome (range_at phrase ts) (λ behind. (ts ≡ kind.PortRange ∷ behind) × (phrase.type_word ≡ None))
range_sound phrase (kind.PortRange ∷ ts) = at_word phrase.type_word refl
  where
    at_word : (o : Option TypeWord) → phrase.type_word ≡ o → IfSome (if is_none o then Some ts else None) (λ behind. (kind.PortRange ∷ ts ≡ kind.PortRange ∷ behind) × (phrase.type_word ≡ None))
    at_word None e = (refl, e)
    at_word (Some w) e = tt
range_sound phrase ts = tt

-- what a phrase is before: an identifier that its qualifiers take, or the group of a `(`
abbrev Stands : Qualifiers → List Kind → Start → List Kind → Type 0
Stands g ts (starts.Primitive p) rest = Identified g ts p rest
Stands g ts (starts.Group h) rest = (mid : List Kind) × (h ≡ g) × (ts ≡ kind.Open ∷ mid) × (rest ≡ ts)

-- what is found after a phrase is one of the two
under_sound : (g : Qualifiers) (ts : List Kind) → IfSome (under g ts) (λ s. Stands g ts s.0 s.1)
unfolding identified_at
under_sound g (kind.Not ∷ ts) = tt
under_sound g (kind.Open ∷ ts) = (ts, refl, refl, refl)
under_sound g ts = step {B = Start × List Kind} (λ p. Identified g ts p.0 p.1) (λ s. Stands g ts s.0 s.1) (identified_at g ts) (λ p. Some (starts.Primitive p.0, p.1)) (identified_sound g ts) (λ p h. h)

-- What was begun: a primitive, or the group of a phrase up to its `(`.
abbrev pub Begun : Option Qualifiers → List Kind → Start → Option Qualifiers → List Kind → Type 0
Begun q ts (starts.Primitive p) r rest = Prim q ts p r rest
Begun q ts (starts.Group g) r rest = (phrase : Phrase) × (mid : List Kind) × (phrase_at ts ≡ (phrase, kind.Open ∷ mid)) × (is_written phrase ≡ true) × (qualifiers_of phrase ≡ Some g) × (r ≡ Some g) × (rest ≡ kind.Open ∷ mid)

-- so it is begun by its phrase
begun_under : (q : Option Qualifiers) (ts mid : List Kind) (phrase : Phrase) (g : Qualifiers) (s : Start) (rest : List Kind) → phrase_at ts ≡ (phrase, mid) → is_written phrase ≡ true → qualifiers_of phrase ≡ Some g → Stands g mid s rest → Begun q ts s (Some g) rest
begun_under q ts mid phrase g (starts.Primitive p) rest e w f (id, a, b) = prim_phrase e w f a b
begun_under q ts mid phrase g (starts.Group h) rest e w f (behind, a, b, c) = (phrase, behind, e ∙ ap (λ x. (phrase, x)) b, w, f ∙ ap (λ x. Some x) (sym a), ap (λ x. Some x) (sym a), c ∙ b)

-- what is found after a phrase is begun by it
qualified_sound : (q : Option Qualifiers) (ts mid : List Kind) (phrase : Phrase) → phrase_at ts ≡ (phrase, mid) → is_written phrase ≡ true → IfSome (qualified_at phrase mid) (λ s. Begun q ts s.0 s.1 s.2)
qualified_sound q ts mid phrase e w =
    each_step (λ s. Begun q ts s.0 s.1 s.2) (qualifiers_of phrase) (λ g. under g mid >>= λ s. Some (s.0, Some g, s.1))
    (λ g f. step (λ s. Stands g mid s.0 s.1) (λ s. Begun q ts s.0 s.1 s.2) (under g mid) (λ s. Some (s.0, Some g, s.1)) (under_sound g mid) (λ s h. begun_under q ts mid phrase g s.0 s.1 e w f h))

-- what is found without one is begun by the qualifiers inherited
inherited_sound : (q : Option Qualifiers) (ts : List Kind) → IfSome (inherited_at q ts) (λ s. Begun q ts s.0 s.1 s.2)
inherited_sound None ts = tt
inherited_sound (Some g) ts =
    step (λ p. Identified g ts p.0 p.1) (λ s. Begun (Some g) ts s.0 s.1 s.2) (identified_at g ts) (λ p. Some (starts.Primitive p.0, Some g, p.1)) (identified_sound g ts) (λ p h. prim_inherited h.1 h.2)

-- a range of ports is begun by its phrase
ranged_sound : (q : Option Qualifiers) (ts behind : List Kind) (phrase : Phrase) → phrase_at ts ≡ (phrase, kind.PortRange ∷ behind) → phrase.type_word ≡ None → IfSome (without_qualifiers (portrange_at phrase behind)) (λ s. Begun q ts s.0 s.1 s.2)
ranged_sound q ts behind phrase e w =
    step (λ p. Ranges phrase behind p.0 p.1) (λ s. Begun q ts s.0 s.1 s.2) (portrange_at phrase behind) (λ p. Some (starts.Primitive p.0, None, p.1)) (portrange_sound phrase behind)
    (λ p h. prim_portrange (e ∙ ap (λ x. (phrase, kind.PortRange ∷ x)) h.3) w h.4 h.5)

-- each way on after a phrase
phrased_by_sound : (q : Option Qualifiers) (ts : List Kind) (phrase : Phrase) (rest : List Kind) → phrase_at ts ≡ (phrase, rest) → IfSome (phrased_by q ts phrase rest) (λ s. Begun q ts s.0 s.1 s.2)
phrased_by_sound q ts phrase rest e = at_plain (plain_at phrase rest) refl (plain_sound phrase.protocol phrase.direction phrase.type_word rest)
  where
    at_written : (b : Bool) → is_written phrase ≡ b → IfSome (cond b (qualified_at phrase rest) (inherited_at q ts)) (λ s. Begun q ts s.0 s.1 s.2)
    at_written true w = qualified_sound q ts rest phrase e w
    at_written false w = inherited_sound q ts

    at_range : (o : Option (List Kind)) → plain_at phrase rest ≡ None → range_at phrase rest ≡ o → IfSome o (λ behind. (rest ≡ kind.PortRange ∷ behind) × (phrase.type_word ≡ None)) → IfSome (phrased_by q ts phrase rest) (λ s. Begun q ts s.0 s.1 s.2)
    at_range (Some behind) f g h = rw (f, g, phrased_by) (ranged_sound q ts behind phrase (e ∙ ap (λ x. (phrase, x)) h.0) h.1)
    at_range None f g h = rw (f, g, phrased_by) (at_written (is_written phrase) refl)

    at_plain : (o : Option Plain) → plain_at phrase rest ≡ o → IfSome o (λ p. IsPlain phrase rest p) → IfSome (phrased_by q ts phrase rest) (λ s. Begun q ts s.0 s.1 s.2)
    at_plain (Some p) f h = rw (f, phrased_by) (prim_plain (e ∙ ap (λ x. (x, rest)) h.1) h.2 h.3)
    at_plain None f h = at_range (range_at phrase rest) f refl (range_sound phrase rest)

-- broadcast and multicast after their protocol
broadcast_sound : (q : Option Qualifiers) (p : Protocol) (ts : List Kind) → IfSome (broadcast_at p ts) (λ b. Prim q (kind.Protocol p ∷ ts) b.0 None b.1)
broadcast_sound q protocols.Ether (kind.Broadcast ∷ ts) = prim_ether_broadcast
broadcast_sound q protocols.Ether (kind.Multicast ∷ ts) = prim_ether_multicast
broadcast_sound q protocols.Ip (kind.Multicast ∷ ts) = prim_ip_multicast
broadcast_sound q p ts = tt

-- each primitive without qualifiers
unqualified_sound : (q : Option Qualifiers) (ts : List Kind) → IfSome (unqualified_at ts) (λ found. IfSome found (λ p. Prim q ts p.0 None p.1))
unqualified_sound q (kind.Broadcast ∷ ts) = prim_broadcast
unqualified_sound q (kind.Multicast ∷ ts) = prim_multicast
unqualified_sound q (kind.Less ∷ kind.Number n ∷ ts) = prim_less
unqualified_sound q (kind.Greater ∷ kind.Number n ∷ ts) = prim_greater
unqualified_sound q (kind.Protocol p ∷ ts) = broadcast_sound q p ts
unqualified_sound q ts = tt

-- what is read where a term begins stands there by the grammar
pub start_begun : (q : Option Qualifiers) (ts : List Kind) → IfSome (start_at q ts) (λ s. Begun q ts s.0 s.1 s.2)
unfolding start_at phrased_at
start_begun q ts = step (λ found. IfSome found (λ p. Prim q ts p.0 None p.1)) (λ s. Begun q ts s.0 s.1 s.2) (unqualified_at ts) _ (unqualified_sound q ts) at_found
  where
    at_found : (found : Option (Primitive × List Kind)) → IfSome found (λ p. Prim q ts p.0 None p.1) → IfSome (elim found [ Some p ↦ without_qualifiers (Some p) | None ↦ phrased_at q ts ]) (λ s. Begun q ts s.0 s.1 s.2)
    at_found (Some p) h = h
    at_found None h = phrased_by_sound q ts (phrase_at ts).0 (phrase_at ts).1 refl

-- the first tokens of what takes no qualifiers, and is no protocol word alone
data Unqualified : List Kind → Type 0 where
  has_broadcast : {ts : List Kind} → Unqualified (kind.Broadcast ∷ ts)
  has_multicast : {ts : List Kind} → Unqualified (kind.Multicast ∷ ts)
  has_less : {ts : List Kind} → Unqualified (kind.Less ∷ ts)
  has_greater : {ts : List Kind} → Unqualified (kind.Greater ∷ ts)
  has_ether_broadcast : {ts : List Kind} → Unqualified (kind.Protocol protocols.Ether ∷ kind.Broadcast ∷ ts)
  has_ether_multicast : {ts : List Kind} → Unqualified (kind.Protocol protocols.Ether ∷ kind.Multicast ∷ ts)
  has_ip_multicast : {ts : List Kind} → Unqualified (kind.Protocol protocols.Ip ∷ kind.Multicast ∷ ts)

-- other tokens begin none of these
unqualified_or_none : (ts : List Kind) → (unqualified_at ts ≡ Some None) ⊎ Unqualified ts
unqualified_or_none (kind.Broadcast ∷ ts) = inr has_broadcast
unqualified_or_none (kind.Multicast ∷ ts) = inr has_multicast
unqualified_or_none (kind.Less ∷ ts) = inr has_less
unqualified_or_none (kind.Greater ∷ ts) = inr has_greater
unqualified_or_none (kind.Protocol protocols.Ether ∷ kind.Broadcast ∷ ts) = inr has_ether_broadcast
unqualified_or_none (kind.Protocol protocols.Ether ∷ kind.Multicast ∷ ts) = inr has_ether_multicast
unqualified_or_none (kind.Protocol protocols.Ip ∷ kind.Multicast ∷ ts) = inr has_ip_multicast
unqualified_or_none ts = inl refl

-- no phrase and no identifier begins so
unqualified_unphrased : (q : Option Qualifiers) (ts : List Kind) → Unqualified ts → phrased_at q ts ≡ None
unfolding phrased_at identified_at
unqualified_unphrased None ts has_broadcast = refl
unqualified_unphrased None ts has_multicast = refl
unqualified_unphrased None ts has_less = refl
unqualified_unphrased None ts has_greater = refl
unqualified_unphrased (Some g) ts has_broadcast = refl
unqualified_unphrased (Some g) ts has_multicast = refl
unqualified_unphrased (Some g) ts has_less = refl
unqualified_unphrased (Some g) ts has_greater = refl
unqualified_unphrased q ts has_ether_broadcast = refl
unqualified_unphrased q ts has_ether_multicast = refl
unqualified_unphrased q ts has_ip_multicast = refl

-- what is read by its phrase is read where a term begins
start_phrased : (q : Option Qualifiers) (ts : List Kind) (s : Start × Option Qualifiers × List Kind) → phrased_at q ts ≡ Some s → start_at q ts ≡ Some s
unfolding start_at
start_phrased q ts s e = at_first (unqualified_or_none ts)
  where
    at_first : (unqualified_at ts ≡ Some None) ⊎ Unqualified ts → start_at q ts ≡ Some s
    at_first (inl none) = rw none e
    at_first (inr first) = absurd (none-some s (sym (unqualified_unphrased q ts first) ∙ e))

-- which goes by the phrase that stands there
phrased_from : (q : Option Qualifiers) (ts rest : List Kind) (phrase : Phrase) → phrase_at ts ≡ (phrase, rest) → phrased_at q ts ≡ phrased_by q ts phrase rest
unfolding phrased_at
phrased_from q ts rest phrase e = ap (λ x. phrased_by q ts x.0 x.1) e

-- no protocol word is a primitive of its own before these
plain_none : (protocol : Option Protocol) (direction : Option Direction) (word : Option TypeWord) (rest : List Kind) → ((p : Protocol) → stands_alone p rest ≡ false) → plain_at (record { protocol = protocol; direction = direction; type_word = word }) rest ≡ None
plain_none protocol (Some d) word rest h = refl
plain_none protocol None (Some w) rest h = refl
plain_none None None None rest h = refl
plain_none (Some protocol) None None rest h = rw (h protocol) refl

-- the first token of an identifier
pub data IsIdentifier : List Kind → Type 0 where
  is_number : {n : ℕ} {ts : List Kind} → IsIdentifier (kind.Number n ∷ ts)
  is_ethernet : {a : EthernetAddress} {ts : List Kind} → IsIdentifier (kind.Ethernet a ∷ ts)
  is_name : {name : Protocol} {ts : List Kind} → IsIdentifier (kind.Name name ∷ ts)
  is_dotted : {a : ℕ} {parts : Parts} {ts : List Kind} → IsIdentifier (kind.Dotted a parts ∷ ts)

-- what is read as an identifier begins as one
pub is_identifier : (ts : List Kind) (id : Identifier × List Kind) → identifier_at ts ≡ Some id → IsIdentifier ts
is_identifier (kind.Number n ∷ ts) id e = is_number
is_identifier (kind.Ethernet a ∷ ts) id e = is_ethernet
is_identifier (kind.Name name ∷ ts) id e = is_name
is_identifier (kind.Dotted a parts ∷ ts) id e = is_dotted
is_identifier ts id e = absurd (none-some id e)

-- after a phrase that is no primitive and no range, its qualifiers decide
phrased_qualified : (q : Option Qualifiers) (ts mid : List Kind) (phrase : Phrase) → ((p : Protocol) → stands_alone p mid ≡ false) → range_at phrase mid ≡ None → is_written phrase ≡ true → phrased_by q ts phrase mid ≡ qualified_at phrase mid
phrased_qualified q ts mid phrase alone range written = rw (plain_none phrase.protocol phrase.direction phrase.type_word mid alone, range, written, phrased_by)

-- no protocol word before an identifier is a primitive of its own
alone_identifier : (ts : List Kind) → IsIdentifier ts → (p : Protocol) → stands_alone p ts ≡ false
alone_identifier ts is_number p = refl
alone_identifier ts is_ethernet p = refl
alone_identifier ts is_name p = refl
alone_identifier ts is_dotted p = refl

-- no identifier is portrange
range_identifier : (phrase : Phrase) (ts : List Kind) → IsIdentifier ts → range_at phrase ts ≡ None
range_identifier phrase ts is_number = refl
range_identifier phrase ts is_ethernet = refl
range_identifier phrase ts is_name = refl
range_identifier phrase ts is_dotted = refl

-- an identifier is no sign
under_identifier : (g : Qualifiers) (ts : List Kind) → IsIdentifier ts → under g ts ≡ (identified_at g ts >>= λ p. Some (starts.Primitive p.0, p.1))
under_identifier g ts is_number = refl
under_identifier g ts is_ethernet = refl
under_identifier g ts is_name = refl
under_identifier g ts is_dotted = refl

-- no phrase stands where an identifier does
phrased_inherited : (q : Option Qualifiers) (ts : List Kind) → IsIdentifier ts → phrased_at q ts ≡ inherited_at q ts
unfolding phrased_at
phrased_inherited q ts is_number = refl
phrased_inherited q ts is_ethernet = refl
phrased_inherited q ts is_name = refl
phrased_inherited q ts is_dotted = refl

-- an identifier that the qualifiers of its phrase take is read
qualified_identifier : (phrase : Phrase) (mid rest : List Kind) (g : Qualifiers) (id : Identifier) (p : Primitive) → qualifiers_of phrase ≡ Some g → identifier_at mid ≡ Some (id, rest) → identified g id ≡ Some p → qualified_at phrase mid ≡ Some (starts.Primitive p, Some g, rest)
qualified_identifier phrase mid rest g id p f a b =
    ap (λ o. o >>= λ h. under h mid >>= λ s. Some (s.0, Some h, s.1)) f
    ∙ ap (λ o. o >>= λ s. Some (s.0, Some g, s.1)) (under_identifier g mid (is_identifier mid (id, rest) a) ∙ ap (λ o. o >>= λ x. Some (starts.Primitive x.0, x.1)) (identified_complete g mid rest id p a b))

-- a primitive after a phrase, or without one
phrased_complete : (q : Option Qualifiers) (ts mid rest : List Kind) (phrase : Phrase) (g : Qualifiers) (id : Identifier) (p : Primitive) → phrase_at ts ≡ (phrase, mid) → is_written phrase ≡ true → qualifiers_of phrase ≡ Some g → identifier_at mid ≡ Some (id, rest) → identified g id ≡ Some p → phrased_at q ts ≡ Some (starts.Primitive p, Some g, rest)
phrased_complete q ts mid rest phrase g id p e w f a b =
    let shape = is_identifier mid (id, rest) a in
    phrased_from q ts mid phrase e ∙ phrased_qualified q ts mid phrase (alone_identifier mid shape) (range_identifier phrase mid shape) w ∙ qualified_identifier phrase mid rest g id p f a b

-- and one that the qualifiers inherited take
inherited_complete : (ts rest : List Kind) (g : Qualifiers) (id : Identifier) (p : Primitive) → identifier_at ts ≡ Some (id, rest) → identified g id ≡ Some p → phrased_at (Some g) ts ≡ Some (starts.Primitive p, Some g, rest)
inherited_complete ts rest g id p a b =
    phrased_inherited (Some g) ts (is_identifier ts (id, rest) a) ∙ ap (λ o. o >>= λ x. Some (starts.Primitive x.0, Some g, x.1)) (identified_complete g ts rest id p a b)

-- a protocol word that is a primitive of its own is read
plain_complete : (q : Option Qualifiers) (ts rest : List Kind) (protocol : Protocol) (p : Plain) → phrase_at ts ≡ (only_protocol protocol, rest) → stands_alone protocol rest ≡ true → plain_of protocol ≡ Some p → phrased_at q ts ≡ Some (starts.Primitive (primitives.Protocol p), None, rest)
plain_complete q ts rest protocol p e alone plain =
    let found : plain_at (only_protocol protocol) rest ≡ Some p = rw (alone, plain) in
    phrased_from q ts rest (only_protocol protocol) e ∙ rw (found, phrased_by)

-- and a range of ports
range_complete : (q : Option Qualifiers) (ts rest : List Kind) (phrase : Phrase) (t : Option Transport) (a b : ℕ) (p : Primitive) → phrase_at ts ≡ (phrase, kind.PortRange ∷ kind.Number a ∷ kind.Operator Minus ∷ kind.Number b ∷ rest) → phrase.type_word ≡ None → transport_of phrase.protocol ≡ Some t → ports_between t (unwrap_or phrase.direction SrcOrDst) a b ≡ Some p → phrased_at q ts ≡ Some (starts.Primitive p, None, rest)
range_complete q ts rest phrase t a b p e w f ports =
    phrased_from q ts behind phrase e ∙ rw (plain_none phrase.protocol phrase.direction phrase.type_word behind (λ p. refl), ranged, portrange_reads phrase t a b rest f, ports, phrased_by)
  where
    behind : List Kind
    behind = kind.PortRange ∷ kind.Number a ∷ kind.Operator Minus ∷ kind.Number b ∷ rest

    ranged : range_at phrase behind ≡ Some (kind.Number a ∷ kind.Operator Minus ∷ kind.Number b ∷ rest)
    ranged = rw w

-- a primitive of the grammar is read
pub start_complete : (q : Option Qualifiers) (ts : List Kind) (p : Primitive) (r : Option Qualifiers) (rest : List Kind) → Prim q ts p r rest → start_at q ts ≡ Some (starts.Primitive p, r, rest)
unfolding start_at
start_complete q ts p r rest (prim_plain {protocol = protocol} {p = plain} e alone f) = start_phrased q ts (starts.Primitive (primitives.Protocol plain), None, rest) (plain_complete q ts rest protocol plain e alone f)
start_complete q ts p r rest prim_broadcast = refl
start_complete q ts p r rest prim_ether_broadcast = refl
start_complete q ts p r rest prim_multicast = refl
start_complete q ts p r rest prim_ether_multicast = refl
start_complete q ts p r rest prim_ip_multicast = refl
start_complete q ts p r rest prim_less = refl
start_complete q ts p r rest prim_greater = refl
start_complete q ts p r rest (prim_portrange {phrase = phrase} {t = t} {a = a} {b = b} e w f ports) = start_phrased q ts (starts.Primitive p, None, rest) (range_complete q ts rest phrase t a b p e w f ports)
start_complete q ts p r rest (prim_phrase {mid = mid} {phrase = phrase} {g = g} {id = id} e w f a b) = start_phrased q ts (starts.Primitive p, Some g, rest) (phrased_complete q ts mid rest phrase g id p e w f a b)
start_complete q ts p r rest (prim_inherited {g = g} {id = id} a b) = start_phrased q ts (starts.Primitive p, Some g, rest) (inherited_complete ts rest g id p a b)

-- and the phrase of a group
pub group_start_complete : (q : Option Qualifiers) (ts mid : List Kind) (phrase : Phrase) (g : Qualifiers) → phrase_at ts ≡ (phrase, kind.Open ∷ mid) → is_written phrase ≡ true → qualifiers_of phrase ≡ Some g → start_at q ts ≡ Some (starts.Group g, Some g, kind.Open ∷ mid)
group_start_complete q ts mid phrase g e w f =
    start_phrased q ts (starts.Group g, Some g, kind.Open ∷ mid)
    (phrased_from q ts (kind.Open ∷ mid) phrase e ∙ phrased_qualified q ts (kind.Open ∷ mid) phrase (λ p. refl) refl w ∙ ap (λ o. o >>= λ h. under h (kind.Open ∷ mid) >>= λ s. Some (s.0, Some h, s.1)) f)

-- nothing begins so with `not` or `(`
pub not_started : (q : Option Qualifiers) (ts : List Kind) → start_at q (kind.Not ∷ ts) ≡ None
unfolding start_at phrased_at identified_at
not_started None ts = refl
not_started (Some g) ts = refl

-- the same of `(`
pub open_started : (q : Option Qualifiers) (ts : List Kind) → start_at q (kind.Open ∷ ts) ≡ None
unfolding start_at phrased_at identified_at
open_started None ts = refl
open_started (Some g) ts = refl

-- and of no token
pub nothing_started : (q : Option Qualifiers) → start_at q [] ≡ None
unfolding start_at phrased_at identified_at
nothing_started None = refl
nothing_started (Some g) = refl
