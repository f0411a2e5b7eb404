-- Lists: the links of a chain of `or`, or the negations in a chain of `and`, that differ only in their numbers.
use Rattle.std.specs.Prelude.{◌≡◌, ℕ, ◌+◌, ◌*◌, ◌/◌, ◌%◌, ◌^◌, ◌≤◌, ◌<◌, ◌==◌, ◌&&◌, List, [], ◌∷◌, All, Contains, length, ◌⊎◌, Option, Some, None, MatchOption, bit_and}
use Rattle.std.specs.List.{AllZip}
use Rattle.bpfvm.specs.declared.program.TheConstants.{MAX_INSNS}
use Rattle.filter_tree.specs.declared.headers.TheConstants.{ETHER_DST, ETHER_SRC, ETHER_TYPE, ETHERTYPE_IP, ETHERTYPE_ARP, ETHERTYPE_REVARP, IP_P, IP_SRC, IP_DST, ARP_SPA, ARP_TPA}
use Rattle.filter_tree.specs.Trees.{Tree}
use Rattle.filter_tree.specs.Trees as trees
use Rattle.filter_tree.specs.declared.tree.Layer.TheVariants as layers
use Rattle.filter_tree.specs.declared.tree.Size.TheVariants as sizes
use Rattle.filter_tree.specs.declared.tree.Direction.{Direction}
use Rattle.filter_tree.specs.declared.tree.Direction.TheVariants.{Src, Dst, SrcOrDst}
use Rattle.filter_tree.specs.declared.tree.Network.{Network}
use Rattle.filter_tree.specs.declared.tree.Network.TheVariants as networks
use Rattle.filter_tree.specs.declared.tree.Transport.{Transport}
use Rattle.filter_tree.specs.declared.tree.Transport.TheVariants as transports
use Rattle.filter_tree.specs.declared.tree.Plain.{Plain}
use Rattle.filter_tree.specs.declared.tree.Plain.TheVariants as words
use Rattle.filter_meaning.specs.declared.verdict.Verdict.{Verdict}
use Rattle.filter_meaning.specs.declared.verdict.Verdict.TheVariants.{Yes, No, Abort}
use Rattle.filter_meaning.specs.Meaning.{Packet, Test, and_then, or_else, opposite, or_test, and_test, check, byte, half, word, six, is_type, by_direction, within, has_port, has_any_ports, bytes_of, accessed, in_layer, primitive_test, meaning}
use Rattle.filtergen_facts.specs.declared.lists.Chain.{Chain}
use Rattle.filtergen_facts.specs.declared.lists.Chain.TheVariants as chains
use Rattle.filtergen_facts.specs.declared.lists.Form.{Form}
use Rattle.filtergen_facts.specs.declared.lists.Form.TheVariants as forms
use Rattle.filtergen_facts.specs.declared.lists.Sides.{Sides}
use Rattle.filtergen_facts.specs.declared.lists.Sides.TheVariants as sides
use Rattle.filtergen_facts.specs.declared.lists.Bytes.{Bytes}
use Rattle.filtergen_facts.specs.declared.lists.ListKind.{ListKind}
use Rattle.filtergen_facts.specs.declared.lists.ValueRange.{ValueRange}
use Rattle.filtergen_facts.specs.declared.lists.Member.{Member}
use Rattle.filter_tree.specs.declared.tree.Primitive.{Primitive}
use Rattle.filtergen_facts.specs.declared.packet_facts.PacketFacts.{PacketFacts}
use Rattle.filtergen_facts.specs.Weights.{weight, need}
use Rattle.filtergen_facts.specs.Facts.{after_expr, LOOK_BACK}

-- one of these tests; the last of them stands first in the list
abbrev pub any_of : {X : Type 0} → (X → Test) → List X → Test
any_of t [] p = No
any_of t (x ∷ xs) p = or_else (any_of t xs p) (t x p)

abbrev pub direction_of : Sides → Direction
direction_of sides.Source = Src
direction_of sides.Destination = Dst
direction_of sides.Either = SrcOrDst

-- the same sides, or one of both
abbrev pub IsBroader : Sides → Sides → Type 0
IsBroader sides.Either t = Unit {0}
IsBroader sides.Source sides.Source = Unit {0}
IsBroader sides.Destination sides.Destination = Unit {0}
IsBroader s t = ⊥

-- an address of IPv4 of the other sides is there where one of these is
abbrev pub Reaches : Sides → Sides → Type 0
Reaches sides.Destination t = Unit {0}
Reaches s t = IsBroader s t

-- bytes of the ports of such tests
abbrev pub ArePorts : Form → Bytes → Type 0
ArePorts forms.TcpPorts b = (b.layer ≡ layers.Tcp) × (b.index + bytes_of b.size ≤ 4)
ArePorts forms.UdpPorts b = (b.layer ≡ layers.Udp) × (b.index + bytes_of b.size ≤ 4)
ArePorts other b = ⊥

-- one of the ports of such tests
abbrev pub IsPort : Form → Bytes → Type 0
IsPort forms.TcpPorts b = (b.layer ≡ layers.Tcp) × (b.size ≡ sizes.Two) × ((b.index ≡ 0) ⊎ (b.index ≡ 2))
IsPort forms.UdpPorts b = (b.layer ≡ layers.Udp) × (b.size ≡ sizes.Two) × ((b.index ≡ 0) ⊎ (b.index ≡ 2))
IsPort other b = ⊥

abbrev pub net_form : Option Network → Form
net_form None = forms.Net
net_form (Some networks.Ip) = forms.IpNet
net_form (Some networks.Arp) = forms.ArpNet
net_form (Some networks.Rarp) = forms.RarpNet

abbrev pub ports_form : Option Transport → Form
ports_form None = forms.Ports
ports_form (Some transports.Tcp) = forms.TcpPorts
ports_form (Some transports.Udp) = forms.UdpPorts
ports_form (Some transports.Sctp) = forms.SctpPorts

-- what a protocol word stands for: a network or a transport
abbrev pub network_of : Plain → Option Network
network_of words.Ip = Some networks.Ip
network_of words.Arp = Some networks.Arp
network_of words.Rarp = Some networks.Rarp
network_of other = None

abbrev pub transport_of : Plain → Option Transport
transport_of words.Tcp = Some transports.Tcp
transport_of words.Udp = Some transports.Udp
transport_of words.Sctp = Some transports.Sctp
transport_of other = None

-- the bits of four bytes under a mask are in a range
abbrev pub in_range : ValueRange → ℕ → ℕ → Test
in_range x mask o p = check (λ w. within x.low x.high (bit_and w mask)) (word o p)

-- six bytes: the first two are this number, and the other four are in a range
abbrev pub has_tail : ℕ → ValueRange → ℕ → Test
has_tail head x o p = check (λ n. (n / 2 ^ 32 == head) && within x.low x.high (n % 2 ^ 32)) (six o p)

-- IPv4 and one test, or ARP or RARP and another one
abbrev pub of_any_type : Test → Test → Test
of_any_type ip arp = or_test (or_test (and_test (is_type ETHERTYPE_IP) ip) (and_test (is_type ETHERTYPE_ARP) arp)) (and_test (is_type ETHERTYPE_REVARP) arp)

-- bytes of a packet that has their layer are in a range
abbrev pub bytes_test : Bytes → ValueRange → Test
bytes_test b x = and_test (in_layer b.layer) (λ p. check (within x.low x.high) (accessed b.layer (bytes_of b.size) p b.index))

-- those of what is no relation
abbrev pub no_bytes : Bytes
no_bytes = record { layer = layers.Ether; index = 0; size = sizes.One }

-- two addresses of a frame: the source's and the destination's, by their offsets
abbrev pub addresses_test : Direction → ℕ → ℕ → ℕ → ValueRange → Test
addresses_test d mask source destination x = by_direction d (in_range x mask source) (in_range x mask destination)

-- those of IPv4, and those of ARP and RARP
abbrev pub ip_addresses_test : Direction → ℕ → ValueRange → Test
ip_addresses_test d mask = addresses_test d mask IP_SRC IP_DST

abbrev pub arp_addresses_test : Direction → ℕ → ValueRange → Test
arp_addresses_test d mask = addresses_test d mask ARP_SPA ARP_TPA

-- the ports after an IPv4 header
abbrev pub header_ports_test : Direction → ValueRange → Test
header_ports_test d x = by_direction d (has_port x.low x.high 0) (has_port x.low x.high 2)

-- The test of a member, by the form of its list: its number is in a range.
abbrev pub any_net_test : Direction → ℕ → ValueRange → Test
any_net_test d mask x = of_any_type (ip_addresses_test d mask x) (arp_addresses_test d mask x)

abbrev pub ip_net_test : Direction → ℕ → ValueRange → Test
ip_net_test d mask x = and_test (is_type ETHERTYPE_IP) (ip_addresses_test d mask x)

abbrev pub arp_net_test : ℕ → Direction → ℕ → ValueRange → Test
arp_net_test number d mask x = and_test (is_type number) (arp_addresses_test d mask x)

abbrev pub ports_test : Option Transport → Direction → ValueRange → Test
ports_test asked d x = has_any_ports asked d x.low x.high

abbrev pub tcp_or_udp_ports_test : Direction → ValueRange → Test
tcp_or_udp_ports_test d x = or_test (ports_test (Some transports.Tcp) d x) (ports_test (Some transports.Udp) d x)

abbrev pub ip_protocol_test : ValueRange → Test
ip_protocol_test x = and_test (is_type ETHERTYPE_IP) (λ p. check (within x.low x.high) (byte IP_P p))

abbrev pub ether_type_test : ValueRange → Test
ether_type_test x p = check (within x.low x.high) (half ETHER_TYPE p)

abbrev pub ether_host_test : Direction → ℕ → ValueRange → Test
ether_host_test d head x = by_direction d (has_tail head x ETHER_SRC) (has_tail head x ETHER_DST)

abbrev pub form_test : Form → Direction → ℕ → ℕ → Bytes → ValueRange → Test
form_test forms.Net d m h b x = any_net_test d m x
form_test forms.IpNet d m h b x = ip_net_test d m x
form_test forms.ArpNet d m h b x = arp_net_test ETHERTYPE_ARP d m x
form_test forms.RarpNet d m h b x = arp_net_test ETHERTYPE_REVARP d m x
form_test forms.Ports d m h b x = ports_test None d x
form_test forms.TcpPorts d m h b x = ports_test (Some transports.Tcp) d x
form_test forms.UdpPorts d m h b x = ports_test (Some transports.Udp) d x
form_test forms.SctpPorts d m h b x = ports_test (Some transports.Sctp) d x
form_test forms.TcpOrUdpPorts d m h b x = tcp_or_udp_ports_test d x
form_test forms.IpProto d m h b x = ip_protocol_test x
form_test forms.EtherProto d m h b x = ether_type_test x
form_test forms.EtherHost d m h b x = ether_host_test d h x
form_test forms.Bytes d m h b x = bytes_test b x

abbrev pub kind_test : ListKind → ValueRange → Test
kind_test k x = form_test k.form (direction_of k.sides) k.mask k.head k.bytes x

-- the kind of the same ports of TCP or UDP
abbrev pub of_tcp_or_udp : ListKind → ListKind
of_tcp_or_udp k = record { form = forms.TcpOrUdpPorts; sides = k.sides; mask = k.mask; head = k.head; bytes = k.bytes }

-- what this many members weigh at least
abbrev pub list_weight : Form → ℕ → ℕ
list_weight forms.Bytes n = 30 * n
list_weight other n = 40 * n

-- the last link of an expression in a chain, which is itself one where it is none
abbrev pub last_link : Chain → Tree → Tree
last_link chains.AnyOf (trees.either t u) = u
last_link chains.NoneOf (trees.both t u) = u
last_link chain t = t

-- Links by `or`, of which any holds, and negations by `and`, of which none does: what a chain makes of two answers, and of
-- that whether any member holds.
abbrev pub chained : Chain → Verdict → Verdict → Verdict
chained chains.AnyOf v w = or_else v w
chained chains.NoneOf v w = and_then v w

abbrev pub turned : Chain → Verdict → Verdict
turned chains.AnyOf v = v
turned chains.NoneOf v = opposite v

-- a tree, or none, to the left of a test
abbrev pub left_chained : Chain → Option Tree → Test → Test
left_chained c None t p = t p
left_chained c (Some u) t p = chained c (meaning u p) (t p)

-- what is known after a tree to the left
abbrev pub after_left : Chain → PacketFacts → Tree → PacketFacts
after_left chains.AnyOf k t = k
after_left chains.NoneOf k t = after_expr LOOK_BACK k t

abbrev pub left_weight : Option Tree → ℕ
left_weight None = 0
left_weight (Some u) = weight u

abbrev pub left_need : Option Tree → ℕ
left_need None = 0
left_need (Some u) = need u

-- how many nodes a tree has
abbrev pub size : Tree → ℕ
size trees.everything = 1
size (trees.test primitive) = 1
size (trees.relation c v w) = 1
size (trees.negation t) = 1 + size t
size (trees.both t u) = 1 + (size t + size u)
size (trees.either t u) = 1 + (size t + size u)

abbrev pub left_size : Option Tree → ℕ
left_size None = 0
left_size (Some u) = size u

-- a member's test
abbrev pub member_test : Member → Test
member_test m = kind_test m.kind m.range

abbrev pub members_weight : List Member → ℕ
members_weight [] = 0
members_weight (m ∷ ms) = list_weight m.kind.form 1 + members_weight ms

-- a member is its primitive, or it is a relation
abbrev pub IsMember : Member → Type 0
IsMember m = MatchOption m.primitive (m.kind.form ≡ forms.Bytes) (λ q. ((p : Packet) → primitive_test q p ≡ member_test m p) × (list_weight m.kind.form 1 ≡ 40))

-- an answer other than Abort
abbrev pub IsAnswered : Verdict → Type 0
IsAnswered Abort = ⊥
IsAnswered other = Unit {0}

-- a chain goes on after what stands to the left
abbrev pub passing : Chain → Verdict
passing chains.AnyOf = No
passing chains.NoneOf = Yes

abbrev pub Passes : Chain → Option Tree → Packet → Type 0
Passes c None p = Unit {0}
Passes c (Some u) p = meaning u p ≡ passing c

-- where a test of a kind was No, none of the other kind aborts
pub record Covers (kind other : ListKind) : Type 0 where
  pub answered : (p : Packet) (x y : ValueRange) → kind_test kind x p ≡ No → IsAnswered (kind_test other y p)

-- if a chain goes on after a tree, no test of this kind aborts
pub record Asks (chain : Chain) (t : Tree) (kind : ListKind) : Type 0 where
  pub answered : (p : Packet) → meaning t p ≡ passing chain → (x : ValueRange) → IsAnswered (kind_test kind x p)

-- no test of this kind aborts after a member and what stands to its left
pub record Settles (chain : Chain) (left : Option Tree) (first : Member) (kind : ListKind) : Type 0 where
  pub answered : (p : Packet) → Passes chain left p → member_test first p ≡ No → (x : ValueRange) → IsAnswered (kind_test kind x p)

-- where a test of a kind was No and one of the other kind aborts, each of the kind is No
pub record IsApart (kind other : ListKind) : Type 0 where
  pub apart : (p : Packet) (x y z : ValueRange) → kind_test kind x p ≡ No → kind_test other y p ≡ Abort → kind_test kind z p ≡ No

-- where a test of a kind is No, so is one of the other kind whose numbers it has
pub record Includes (kind other : ListKind) : Type 0 where
  pub none : (p : Packet) (x y : ValueRange) → x.low ≤ y.low → y.high ≤ x.high → kind_test kind x p ≡ No → kind_test other y p ≡ No

-- never Yes and Abort, so that either may be asked first
abbrev pub Commute : Verdict → Verdict → Type 0
Commute Yes Abort = ⊥
Commute Abort Yes = ⊥
Commute v w = Unit {0}

-- of two members of different kinds either may be asked first
abbrev pub AreFree : List Member → Packet → Type 0
AreFree ms p = (m n : Member) → Contains ms m → Contains ms n → (m.kind ≡ n.kind) ⊎ Commute (member_test m p) (member_test n p)

-- they are so after a member that is No and what stands to its left
pub record AreFreeAfter (chain : Chain) (left : Option Tree) (first : Member) (others : List Member) : Type 0 where
  pub free : (p : Packet) → Passes chain left p → member_test first p ≡ No → AreFree others p

-- members of a kind, and of one that is apart from it
pub record AreApart (kind : ListKind) (others : List Member) : Type 0 where
  pub other : ListKind
  pub apart : IsApart kind other
  pub each : All (λ m. (m.kind ≡ kind) ⊎ (m.kind ≡ other)) others

-- a tree has become members of a list, but for what is left
pub record Takes (chain : Chain) (whole : Tree) (left : Option Tree) (old new : List Member) : Type 0 where
  pub same : (p : Packet) → chained chain (meaning whole p) (turned chain (any_of member_test old p))
      ≡ left_chained chain left (λ q. turned chain (any_of member_test new q)) p
  pub members : All IsMember old → All IsMember new
  pub weighs : left_weight left + members_weight new ≤ weight whole + members_weight old
  pub smaller : left_size left ≤ size whole
  pub needs : left_need left ≤ need whole

-- a chain ends in members, after what is left of its left operand; if the first of them is No, the others may be tested kind by kind
pub record EndsIn (chain : Chain) (t u : Tree) (left : Option Tree) (first : Member) (others : List Member) : Type 0 where
  pub is_first : IsMember first
  pub are_others : All IsMember others
  pub same : (p : Packet) → chained chain (meaning t p) (meaning u p)
      ≡ left_chained chain left (λ q. turned chain (or_else (member_test first q) (any_of member_test others q))) p
  pub free_after : AreFreeAfter chain left first others
  pub weighs : left_weight left + (list_weight first.kind.form 1 + members_weight others) ≤ weight t + weight u
  pub smaller : left_size left ≤ size t
  pub needs : left_need left ≤ need t
  pub room : length others < MAX_INSNS

-- a single member is the primitive of its group
abbrev pub IsAlone : ListKind → Option Primitive → List ValueRange → Type 0
IsAlone kind primitive ranges = (x : ValueRange) → ranges ≡ x ∷ [] → IsMember (record { kind = kind; range = x; primitive = primitive })

-- those of a kind leave the others; where they may be, they are asked first
pub record Divides (kind : ListKind) (all : List Member) (ranges : List ValueRange) (others : List Member) : Type 0 where
  pub same : (p : Packet) → AreFree all p → any_of member_test all p ≡ or_else (any_of (kind_test kind) ranges p) (any_of member_test others p)
  pub commutes : (p : Packet) (v : Verdict) → ((m : Member) → Contains all m → m.kind ≡ kind → Commute v (member_test m p)) → Commute v (any_of (kind_test kind) ranges p)
  pub among : (m : Member) → Contains others m → Contains all m
  pub members : All IsMember all → All IsMember others
  pub weighs : list_weight kind.form (length ranges) + members_weight others ≡ members_weight all
  pub together : length ranges + length others ≡ length all

-- where all of these of a kind are No, a member is
pub record IsIncluded (kind : ListKind) (ranges : List ValueRange) (m : Member) : Type 0 where
  pub none : (p : Packet) → any_of (kind_test kind) ranges p ≡ No → member_test m p ≡ No

-- some that are so are left out
pub record LeavesOut (kind : ListKind) (ranges : List ValueRange) (all others : List Member) : Type 0 where
  pub same : (p : Packet) → any_of (kind_test kind) ranges p ≡ No → any_of member_test all p ≡ any_of member_test others p
  pub among : (m : Member) → Contains others m → Contains all m
  pub members : All IsMember all → All IsMember others
  pub weighs : members_weight others ≤ members_weight all
  pub fewer : length others ≤ length all

-- lists of two kinds that ask for the same are one list of a third kind
pub record AreJoined (kind other joined : ListKind) : Type 0 where
  pub same : (p : Packet) (xs : List ValueRange) → 0 < length xs → or_else (any_of (kind_test kind) xs p) (any_of (kind_test other) xs p) ≡ any_of (kind_test joined) xs p
  pub weighs : (n : ℕ) → list_weight joined.form n ≡ list_weight kind.form n

-- members of a kind, with these numbers in their order
abbrev pub AskFor : ListKind → List ValueRange → List Member → Type 0
AskFor kind ranges ms = AllZip (λ (m : Member) (x : ValueRange). (m.kind ≡ kind) × (m.range ≡ x)) ms ranges

-- Those of a kind with a member that is asked before all of them, and the others, without some that hold only where one of the kind does. The kind
-- is that member's, or one for which the others ask too.
pub record Groups (first : Member) (all : List Member) (kind : ListKind) (ranges : List ValueRange) (others : List Member) : Type 0 where
  pub same : (p : Packet) → (member_test first p ≡ No → AreFree all p)
      → or_else (member_test first p) (any_of member_test all p) ≡ or_else (any_of (kind_test kind) ranges p) (any_of member_test others p)
  pub free : (p : Packet) → (member_test first p ≡ No → AreFree all p) → any_of (kind_test kind) ranges p ≡ No → AreFree others p
  pub alone : IsMember first → IsAlone kind first.primitive ranges
  pub members : All IsMember all → All IsMember others
  pub weighs : list_weight kind.form (length ranges) + members_weight others ≤ list_weight first.kind.form 1 + members_weight all
  pub some : 0 < length ranges
  pub fewer : length others ≤ length all
