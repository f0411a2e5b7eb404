-- Primitives that tokens are read as, and the qualifiers that they give.
use Rattle.std.proofs.Common.{◌≡◌, ℕ, ◌<◌, ◌≤◌, List, ◌∷◌, Option, Some, None, subst, arith, min, max}
use Rattle.std.specs.Prelude.{IfSome, option_map, unwrap_or}
use Rattle.filterlang.specs.declared.token.Kind.{Kind}
use Rattle.filterlang.specs.declared.token.Kind.TheVariants as kind
use Rattle.filterlang.specs.declared.token.Protocol.{Protocol}
use Rattle.filterlang.specs.declared.token.Protocol.TheVariants as protocols
use Rattle.filterlang.specs.declared.token.TypeWord.{TypeWord}
use Rattle.filterlang.specs.declared.token.Side.{Side}
use Rattle.filterlang.specs.declared.token.Parts.TheVariants.{Two, Three, Four}
use Rattle.filter_tree.specs.declared.tree.Operator.TheVariants.{Divide}
use Rattle.filter_tree.specs.declared.tree.Direction.{Direction}
use Rattle.filter_tree.specs.declared.tree.Direction.TheVariants.{SrcOrDst}
use Rattle.filter_tree.specs.declared.tree.Transport.{Transport}
use Rattle.filter_tree.specs.declared.tree.Primitive.{Primitive}
use Rattle.filter_tree.specs.declared.tree.Primitive.TheVariants as primitives
use Rattle.filterlang.specs.Phrases.{protocol_at, type_at, longest, joined, direction_at, phrase_at, identifier_at}
use Rattle.filterlang.specs.Primitives.{ports_between}
use Rattle.filterlang.specs.Qualifiers.{allowed, qualifiers_of, port_of, identified}
use Rattle.filterlang.specs.Grammar.{Prim, prim_plain, prim_broadcast, prim_ether_broadcast, prim_multicast, prim_ether_multicast, prim_ip_multicast, prim_less, prim_greater, prim_phrase, prim_inherited, prim_portrange}
use Rattle.filter_print_laws.proofs.Basics.{at_some}
use Rattle.filter_print_laws.proofs.Sequences.{Domain}
use Rattle.filter_print_laws.proofs.Terms.{IsPrimitive, Nearest}
use Rattle.filter_print_laws.proofs.Bounds.{AreTokens, some_map, some_then}
use Rattle.filter_print_laws.proofs.Identifiers.{between_is, under_number, under_ethernet, under_prefix, under_masked, under_masked_two, under_masked_three, under_dotted_two, under_dotted_three, under_dotted_four, under_name_ether, under_name_ip, under_name_arp, under_name_rarp, under_name_tcp, under_name_udp, under_name_icmp, under_name_sctp}

-- an identifier
abbrev Identifier : Type 0
Identifier = Second identified
  where
    Second : {A B C : Type 0} → (A → B → C) → Type 0
    Second {B = B} f = B

-- under any qualifiers it is a primitive with its numbers within their bounds, or none
abbrev IsIdentifier : Identifier → Type 0
IsIdentifier x = (word : TypeWord) (protocol : Option Protocol) (written : Option Direction) (direction : Direction) → IfSome (allowed word protocol written direction) (λ g. IfSome (identified g x) IsPrimitive)

-- tokens begin with such an identifier, or with none
identifier_is : (ks : List Kind) → AreTokens ks → IfSome (identifier_at ks) (λ x. AreTokens x.1 × IsIdentifier x.0)
identifier_is (kind.Number n ∷ ks) is = (is.1, under_number n)
identifier_is (kind.Ethernet a ∷ ks) is = (is.1, under_ethernet a is.0)
identifier_is (kind.Name protocols.Ether ∷ ks) is = (is.1, under_name_ether tt)
identifier_is (kind.Name protocols.Ip ∷ ks) is = (is.1, under_name_ip tt)
identifier_is (kind.Name protocols.Arp ∷ ks) is = (is.1, under_name_arp tt)
identifier_is (kind.Name protocols.Rarp ∷ ks) is = (is.1, under_name_rarp tt)
identifier_is (kind.Name protocols.Tcp ∷ ks) is = (is.1, under_name_tcp tt)
identifier_is (kind.Name protocols.Udp ∷ ks) is = (is.1, under_name_udp tt)
identifier_is (kind.Name protocols.Icmp ∷ ks) is = (is.1, under_name_icmp tt)
identifier_is (kind.Name protocols.Sctp ∷ ks) is = (is.1, under_name_sctp tt)
identifier_is (kind.Dotted a parts ∷ kind.Operator Divide ∷ kind.Number bits ∷ ks) is = (is.1.1.1, under_prefix a parts bits is.0)
identifier_is (kind.Dotted a parts ∷ kind.Operator Divide ∷ ks) is = tt
identifier_is (kind.Dotted a parts ∷ kind.Mask ∷ kind.Dotted mask Four ∷ ks) is = (is.1.1.1, under_masked a parts mask is.0 is.1.1.0)
identifier_is (kind.Dotted a parts ∷ kind.Mask ∷ kind.Dotted mask Two ∷ ks) is = (is.1.1.1, under_masked_two a parts mask)
identifier_is (kind.Dotted a parts ∷ kind.Mask ∷ kind.Dotted mask Three ∷ ks) is = (is.1.1.1, under_masked_three a parts mask)
identifier_is (kind.Dotted a parts ∷ kind.Mask ∷ ks) is = tt
identifier_is (kind.Dotted a Two ∷ ks) is = (is.1, under_dotted_two a is.0)
identifier_is (kind.Dotted a Three ∷ ks) is = (is.1, under_dotted_three a is.0)
identifier_is (kind.Dotted a Four ∷ ks) is = (is.1, under_dotted_four a is.0)
identifier_is ks is = tt

-- qualifiers that come of a phrase
abbrev pub AreQualifiers : Domain identified → Type 0
AreQualifiers g = (x : Identifier) → IsIdentifier x → IfSome (identified g x) IsPrimitive

-- those of the nearest primitive, where there are any
abbrev pub AreNearest : Nearest → Type 0
AreNearest q = IfSome q AreQualifiers

-- each that the table allows
allowed_are : (word : TypeWord) (protocol : Option Protocol) (written : Option Direction) (direction : Direction) → IfSome (allowed word protocol written direction) AreQualifiers
allowed_are word protocol written direction = each (allowed word protocol written direction) (λ x h. h word protocol written direction)
  where
    each : (o : Nearest) → ((x : Identifier) → IsIdentifier x → IfSome o (λ g. IfSome (identified g x) IsPrimitive)) → IfSome o AreQualifiers
    each None h = tt
    each (Some g) h = h

-- what comes after a phrase are tokens too
protocol_behind : (ks : List Kind) → AreTokens ks → AreTokens (protocol_at ks).1
protocol_behind (kind.Protocol p ∷ ks) is = is.1
protocol_behind ks is = is

-- after a type
type_behind : (ks : List Kind) → AreTokens ks → AreTokens (type_at ks).1
type_behind (kind.Type w ∷ ks) is = is.1
type_behind ks is = is

-- after a direction of three words or of one
longest_behind : (o : Option Direction) (first : Side) (rest later : List Kind) → AreTokens rest → AreTokens later → AreTokens (longest o first rest later).1
longest_behind None first rest later h k = h
longest_behind (Some d) first rest later h k = k

-- after a direction
direction_behind : (ks : List Kind) → AreTokens ks → AreTokens (direction_at ks).1
direction_behind (kind.Side a ∷ kind.Joint j ∷ kind.Side b ∷ ks) is = longest_behind (joined a j b) a (kind.Joint j ∷ kind.Side b ∷ ks) ks is.1 is.1.1.1
direction_behind (kind.Side a ∷ ks) is = is.1
direction_behind ks is = is

-- after all of it
pub phrase_behind : (ks : List Kind) → AreTokens ks → AreTokens (phrase_at ks).1
phrase_behind ks is = type_behind (direction_at (protocol_at ks).1).1 (direction_behind (protocol_at ks).1 (protocol_behind ks is))

-- two ports in order
ports_are : (transport : Option Transport) (direction : Direction) (a b : ℕ) → IfSome (ports_between transport direction a b) IsPrimitive
ports_are transport direction a b =
    some_then (λ x. option_map (λ y. primitives.Ports transport direction (min x y) (max x y)) (port_of b)) (λ m. (0 ≤ m) × (m ≤ 65535)) IsPrimitive (port_of a) (between_is 0 65535 a)
    (λ x h. some_map (λ y. primitives.Ports transport direction (min x y) (max x y)) (λ m. (0 ≤ m) × (m ≤ 65535)) IsPrimitive (port_of b) (between_is 0 65535 b) (λ y k. ordered x y h.1 k.1))
  where
    ordered : (x y : ℕ) → x ≤ 65535 → y ≤ 65535 → (min x y ≤ max x y) × (max x y < 65536)
    ordered x y lx ly = (omega arith, omega arith)

-- what is identified
pub identifier_made : (g : Domain identified) (x : Identifier) (ks rest : List Kind) (p : Primitive) → AreQualifiers g → AreTokens ks → identifier_at ks ≡ Some (x, rest) → identified g x ≡ Some p → IsPrimitive p × AreTokens rest
identifier_made g x ks rest p are is a b =
    let found = at_some (λ y. AreTokens y.1 × IsIdentifier y.0) (identifier_at ks) (x, rest) a (identifier_is ks is) in
    (at_some IsPrimitive (identified g x) p b (are x found.1), found.0)

-- what is known to come after one
pub behind_phrase : (ts : List Kind) {rest : List Kind} {P : Domain qualifiers_of} → phrase_at ts ≡ (P, rest) → AreTokens ts → AreTokens rest
behind_phrase ts e is = subst (λ u. AreTokens u.1) e (phrase_behind ts is)

-- the qualifiers that a phrase gives
pub phrase_gives : (P : Domain qualifiers_of) (g : Domain identified) → qualifiers_of P ≡ Some g → AreQualifiers g
phrase_gives P g e = at_some AreQualifiers (qualifiers_of P) g e (allowed_are _ P.protocol P.direction _)

-- a primitive that is read
pub prim_made : {q r : Nearest} {ts rest : List Kind} {p : Primitive} → Prim q ts p r rest → AreTokens ts → AreNearest q → IsPrimitive p × AreTokens rest × AreNearest r
prim_made (prim_plain e alone f) is near = (tt, behind_phrase _ e is, tt)
prim_made prim_broadcast is near = (tt, is.1, tt)
prim_made prim_ether_broadcast is near = (tt, is.1.1, tt)
prim_made prim_multicast is near = (tt, is.1, tt)
prim_made prim_ether_multicast is near = (tt, is.1.1, tt)
prim_made prim_ip_multicast is near = (tt, is.1.1, tt)
prim_made prim_less is near = (is.1.0, is.1.1, tt)
prim_made prim_greater is near = (is.1.0, is.1.1, tt)
prim_made {p = p} (prim_phrase {mid = mid} {rest = rest} {phrase = phrase} {g = g} {id = x} e w f a b) is near =
    let are = phrase_gives phrase g f in
    let made = identifier_made g x mid rest p are (behind_phrase _ e is) a b in
    (made.0, made.1, are)
prim_made {p = p} (prim_inherited {ts = ts} {rest = rest} {g = g} {id = x} a b) is near =
    let made = identifier_made g x ts rest p near is a b in
    (made.0, made.1, near)
prim_made {p = p} (prim_portrange {phrase = phrase} {t = t} {a = a} {b = b} e w f ports) is near =
    (at_some IsPrimitive (ports_between t (unwrap_or phrase.direction SrcOrDst) a b) p ports (ports_are t _ a b), (behind_phrase _ e is).1.1.1.1, tt)
