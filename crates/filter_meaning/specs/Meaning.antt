-- What filter expressions mean, after pcap-filter(7). Nothing here knows of instructions. Of the filter machine it takes the
-- arithmetic modulo 2 ^ 32 (`calculated`), and what number some bytes are (`number_at`).
use Rattle.std.specs.Prelude.{ℕ, ◌+◌, ◌*◌, ◌%◌, ◌^◌, ◌<◌, ◌==◌, ◌&&◌, Bool, true, false, not, List, Option, Some, None, nat_lt, nat_le, bit_and, option_and_then, slice_index}
use Rattle.std.specs.List.{AllByRecursion}
use Rattle.bpfvm.specs.Codes.{Arithmetic, Add, Subtract, Multiply, Divide, Modulo, Or, And, ExclusiveOr, ShiftLeft, ShiftRight}
use Rattle.bpfvm.specs.Machine.{number_at, calculated}
use Rattle.filter_tree.specs.Trees.{Amount, Tree}
use Rattle.filter_tree.specs.Trees as trees
use Rattle.filter_tree.specs.declared.headers.TheConstants.{ETHER_DST, ETHER_SRC, ETHER_TYPE, ETHER_HDR_LEN, ETHERTYPE_IP, ETHERTYPE_ARP, ETHERTYPE_REVARP, IP_OFF, IP_P, IP_SRC, IP_DST, IP_OFFMASK, IPPROTO_ICMP, IPPROTO_TCP, IPPROTO_UDP, IPPROTO_SCTP, ARP_SPA, ARP_TPA, SRC_PORT, DST_PORT}
use Rattle.filter_tree.specs.declared.tree.Comparison.{Comparison}
use Rattle.filter_tree.specs.declared.tree.Comparison.TheVariants as comparisons
use Rattle.filter_tree.specs.declared.tree.Operator.{Operator}
use Rattle.filter_tree.specs.declared.tree.Operator.TheVariants as operators
use Rattle.filter_tree.specs.declared.tree.Direction.{Direction}
use Rattle.filter_tree.specs.declared.tree.Direction.TheVariants.{Src, Dst, SrcOrDst, SrcAndDst}
use Rattle.filter_tree.specs.declared.tree.Layer.{Layer}
use Rattle.filter_tree.specs.declared.tree.Layer.TheVariants as layers
use Rattle.filter_tree.specs.declared.tree.Network.{Network}
use Rattle.filter_tree.specs.declared.tree.Network.TheVariants as networks
use Rattle.filter_tree.specs.declared.tree.Transport.{Transport}
use Rattle.filter_tree.specs.declared.tree.Transport.TheVariants as transports
use Rattle.filter_tree.specs.declared.tree.Plain.{Plain}
use Rattle.filter_tree.specs.declared.tree.Plain.TheVariants as words
use Rattle.filter_tree.specs.declared.tree.Primitive.{Primitive}
use Rattle.filter_tree.specs.declared.tree.Primitive.TheVariants.{Protocol, Net, EtherHost, Ports, IpProto, EtherProto, EtherBroadcast, EtherMulticast, IpMulticast, Less, Greater}
use Rattle.filter_tree.specs.declared.tree.Size.{Size}
use Rattle.filter_tree.specs.declared.tree.Size.TheVariants as sizes
use Rattle.filter_meaning.specs.declared.verdict.Verdict.{Verdict}
use Rattle.filter_meaning.specs.declared.verdict.Verdict.TheVariants.{Yes, No, Abort}

-- A packet: its captured bytes, and its length on the wire.
pub record Packet : Type 0 where
  pub captured : List ℕ
  pub wire : ℕ

abbrev pub packet_of : List ℕ → ℕ → Packet
packet_of captured wire = record { captured = captured; wire = wire }

-- each captured byte is one, as in each slice of the code
abbrev pub HasBytes : Packet → Type 0
HasBytes p = AllByRecursion (λ byte. byte < 256) p.captured

-- A test answers Yes, No or Abort. Abort: a byte past the captured ones was wanted, or a division or modulo was by 0.
abbrev pub Test : Type 0
Test = Packet → Verdict

-- From left to right, and no farther than needed: an Abort ends the whole and is no answer to turn.
abbrev pub and_then : Verdict → Verdict → Verdict
and_then Yes other = other
and_then No other = No
and_then Abort other = Abort

abbrev pub or_else : Verdict → Verdict → Verdict
or_else Yes other = Yes
or_else No other = other
or_else Abort other = Abort

abbrev pub opposite : Verdict → Verdict
opposite Yes = No
opposite No = Yes
opposite Abort = Abort

abbrev pub and_test : Test → Test → Test
and_test t u p = and_then (t p) (u p)

abbrev pub or_test : Test → Test → Test
or_test t u p = or_else (t p) (u p)

abbrev pub not_test : Test → Test
not_test t p = opposite (t p)

abbrev pub decided : Bool → Verdict
decided true = Yes
decided false = No

-- a condition on a number of the packet, which may be missing
abbrev pub check : (ℕ → Bool) → Option ℕ → Verdict
check condition None = Abort
check condition (Some n) = decided (condition n)

-- the captured bytes at an offset of the frame, as a number in network order
abbrev pub byte : ℕ → Packet → Option ℕ
byte o p = number_at p.captured o 1

abbrev pub half : ℕ → Packet → Option ℕ
half o p = number_at p.captured o 2

abbrev pub word : ℕ → Packet → Option ℕ
word o p = number_at p.captured o 4

abbrev pub six : ℕ → Packet → Option ℕ
six o p = number_at p.captured o 6

-- ether proto t: the type field of the frame
abbrev pub is_type : ℕ → Test
is_type t p = check (λ n. n == t) (half ETHER_TYPE p)

-- ip proto n: IPv4 with this protocol number
abbrev pub is_protocol : ℕ → Test
is_protocol n = and_test (is_type ETHERTYPE_IP) (λ p. check (λ b. b == n) (byte IP_P p))

-- the same, and no later fragment
abbrev pub is_first_fragment_of : ℕ → Test
is_first_fragment_of n = and_test (is_protocol n) (λ p. check (λ b. bit_and b IP_OFFMASK == 0) (half IP_OFF p))

-- ip, arp, rarp, icmp, tcp, udp, sctp
abbrev pub plain_test : Plain → Test
plain_test words.Ip = is_type ETHERTYPE_IP
plain_test words.Arp = is_type ETHERTYPE_ARP
plain_test words.Rarp = is_type ETHERTYPE_REVARP
plain_test words.Icmp = is_protocol IPPROTO_ICMP
plain_test words.Tcp = is_protocol IPPROTO_TCP
plain_test words.Udp = is_protocol IPPROTO_UDP
plain_test words.Sctp = is_protocol IPPROTO_SCTP

-- by the direction: the test of the source, that of the destination, or two of them, the source first
abbrev pub by_direction : Direction → Test → Test → Test
by_direction Src source destination = source
by_direction Dst source destination = destination
by_direction SrcOrDst source destination = or_test source destination
by_direction SrcAndDst source destination = and_test source destination

-- the four bytes of an IPv4 address under a mask; a host has a mask of ones
abbrev pub has_address : ℕ → ℕ → ℕ → Test
has_address address mask o p = check (λ w. bit_and w mask == address) (word o p)

-- ip, arp or rarp host and net
abbrev pub in_net : Network → Direction → ℕ → ℕ → Test
in_net networks.Ip direction address mask =
    and_test (is_type ETHERTYPE_IP) (by_direction direction (has_address address mask IP_SRC) (has_address address mask IP_DST))
in_net networks.Arp direction address mask =
    and_test (is_type ETHERTYPE_ARP) (by_direction direction (has_address address mask ARP_SPA) (has_address address mask ARP_TPA))
in_net networks.Rarp direction address mask =
    and_test (is_type ETHERTYPE_REVARP) (by_direction direction (has_address address mask ARP_SPA) (has_address address mask ARP_TPA))

-- host and net without a protocol: the ip, then the arp, then the rarp form
abbrev pub in_any_net : Option Network → Direction → ℕ → ℕ → Test
in_any_net (Some network) direction address mask = in_net network direction address mask
in_any_net None direction address mask =
    or_test
    (or_test (in_net networks.Ip direction address mask) (in_net networks.Arp direction address mask))
    (in_net networks.Rarp direction address mask)

-- the number that six octets are in network order
abbrev pub address_number : List ℕ → ℕ
address_number octets =
    slice_index octets 0 * 2 ^ 40 + slice_index octets 1 * 2 ^ 32 + slice_index octets 2 * 2 ^ 24 + slice_index octets 3 * 2 ^ 16 + slice_index octets 4 * 2 ^ 8 + slice_index octets 5

-- six bytes are an Ethernet address, by one comparison
abbrev pub is_address : List ℕ → ℕ → Test
is_address octets o p = check (λ n. n == address_number octets) (six o p)

-- two bytes at an offset that counts from the end of the IPv4 header, whose length is four times the low four bits of its first byte
abbrev pub half_behind_header : ℕ → Packet → Option ℕ
half_behind_header o p = option_and_then (λ b. half (ETHER_HDR_LEN + 4 * bit_and b 15 + o) p) (byte ETHER_HDR_LEN p)

-- from low to high, with both
abbrev pub within : ℕ → ℕ → ℕ → Bool
within low high n = nat_le low n && nat_le n high

abbrev pub has_port : ℕ → ℕ → ℕ → Test
has_port low high o p = check (within low high) (half_behind_header o p)

-- port and portrange of a protocol number: the source port comes first after the header, then the destination port
abbrev pub has_ports : ℕ → Direction → ℕ → ℕ → Test
has_ports n direction low high = and_test (is_first_fragment_of n) (by_direction direction (has_port low high SRC_PORT) (has_port low high DST_PORT))

abbrev pub protocol_number : Transport → ℕ
protocol_number transports.Tcp = IPPROTO_TCP
protocol_number transports.Udp = IPPROTO_UDP
protocol_number transports.Sctp = IPPROTO_SCTP

-- without a protocol: the tcp, then the udp, then the sctp form
abbrev pub has_any_ports : Option Transport → Direction → ℕ → ℕ → Test
has_any_ports (Some transport) direction low high = has_ports (protocol_number transport) direction low high
has_any_ports None direction low high =
    or_test
    (or_test (has_ports IPPROTO_TCP direction low high) (has_ports IPPROTO_UDP direction low high))
    (has_ports IPPROTO_SCTP direction low high)

-- a primitive's test
abbrev pub primitive_test : Primitive → Test
primitive_test (Protocol word) = plain_test word
primitive_test (Net network direction address mask) = in_any_net network direction address mask
primitive_test (EtherHost direction address) =
    by_direction direction (is_address address.octets ETHER_SRC) (is_address address.octets ETHER_DST)
primitive_test (Ports transport direction low high) = has_any_ports transport direction low high
primitive_test (IpProto n) = is_protocol n
primitive_test (EtherProto n) = is_type n
primitive_test EtherBroadcast = (λ p. check (λ n. n == 0xffffffffffff) (six ETHER_DST p))
primitive_test EtherMulticast = (λ p. check (λ b. not (bit_and b 1 == 0)) (byte ETHER_DST p))
primitive_test IpMulticast = and_test (is_type ETHERTYPE_IP) (λ p. check (λ b. nat_le 224 b) (byte IP_DST p))
primitive_test (Less n) = (λ p. decided (nat_le p.wire n))
primitive_test (Greater n) = (λ p. decided (nat_le n p.wire))

-- The binary operators calculate as the filter machine does: modulo 2 ^ 32; nothing where the divisor of `/` or `%` is 0;
-- a shift by 32 or more gives 0.
abbrev pub arithmetic_of : Operator → Arithmetic
arithmetic_of operators.Plus = Add
arithmetic_of operators.Minus = Subtract
arithmetic_of operators.Times = Multiply
arithmetic_of operators.Divide = Divide
arithmetic_of operators.Modulo = Modulo
arithmetic_of operators.BitAnd = And
arithmetic_of operators.BitXor = ExclusiveOr
arithmetic_of operators.BitOr = Or
arithmetic_of operators.ShiftLeft = ShiftLeft
arithmetic_of operators.ShiftRight = ShiftRight

-- how many bytes an accessor reads
abbrev pub bytes_of : Size → ℕ
bytes_of sizes.One = 1
bytes_of sizes.Two = 2
bytes_of sizes.Four = 4

-- `size` captured bytes at an index of the frame
abbrev pub in_frame : ℕ → Packet → ℕ → Option ℕ
in_frame size p i = number_at p.captured i size

-- at an index that counts from the end of the Ethernet header, without wrapping
abbrev pub behind_ethernet : ℕ → Packet → ℕ → Option ℕ
behind_ethernet size p i = number_at p.captured (ETHER_HDR_LEN + i) size

-- at an index that counts from the end of the IPv4 header; the sum of index and header length is modulo 2 ^ 32
abbrev pub behind_header : ℕ → Packet → ℕ → Option ℕ
behind_header size p i = option_and_then (λ b. number_at p.captured (ETHER_HDR_LEN + (i + 4 * bit_and b 15) % 2 ^ 32) size) (byte ETHER_HDR_LEN p)

-- proto[i:size]
abbrev pub accessed : Layer → ℕ → Packet → ℕ → Option ℕ
accessed layers.Ether = in_frame
accessed layers.Ip = behind_ethernet
accessed layers.Arp = behind_ethernet
accessed layers.Rarp = behind_ethernet
accessed layers.Tcp = behind_header
accessed layers.Udp = behind_header
accessed layers.Icmp = behind_header

-- The value of arithmetic, below 2 ^ 32 where the length on the wire is: nothing where a divisor is 0, or a byte past the captured ones is wanted.
abbrev pub value : Amount → Packet → Option ℕ
value (trees.number n) p = Some n
value trees.wire_length p = Some p.wire
value (trees.minus v) p = option_and_then (calculated Subtract 0) (value v p)
value (trees.binary o v w) p = option_and_then (λ a. option_and_then (λ b. calculated (arithmetic_of o) a b) (value w p)) (value v p)
value (trees.accessor layer v size) p = option_and_then (accessed layer (bytes_of size) p) (value v p)

-- the packet has the layer that an accessor reads
abbrev pub in_layer : Layer → Test
in_layer layers.Ether = (λ p. Yes)
in_layer layers.Ip = is_type ETHERTYPE_IP
in_layer layers.Arp = is_type ETHERTYPE_ARP
in_layer layers.Rarp = is_type ETHERTYPE_REVARP
in_layer layers.Tcp = is_first_fragment_of IPPROTO_TCP
in_layer layers.Udp = is_first_fragment_of IPPROTO_UDP
in_layer layers.Icmp = is_first_fragment_of IPPROTO_ICMP

-- and the layers of all accessors, in the order of their words
abbrev pub in_layers : Amount → Test
in_layers (trees.number n) = (λ p. Yes)
in_layers trees.wire_length = (λ p. Yes)
in_layers (trees.minus v) = in_layers v
in_layers (trees.binary o v w) = and_test (in_layers v) (in_layers w)
in_layers (trees.accessor layer v size) = and_test (in_layer layer) (in_layers v)

-- the comparisons are of numbers without sign
abbrev pub compared : Comparison → ℕ → ℕ → Bool
compared comparisons.Equal a b = a == b
compared comparisons.NotEqual a b = not (a == b)
compared comparisons.Less a b = nat_lt a b
compared comparisons.Greater a b = nat_lt b a
compared comparisons.LessOrEqual a b = nat_le a b
compared comparisons.GreaterOrEqual a b = nat_le b a

-- a condition on two values, either of which may be missing
abbrev pub check_both : (ℕ → ℕ → Bool) → Option ℕ → Option ℕ → Verdict
check_both condition None b = Abort
check_both condition (Some a) None = Abort
check_both condition (Some a) (Some b) = decided (condition a b)

-- a relation: first the layers of its accessors, then the left value and the right one
abbrev pub relation_test : Comparison → Amount → Amount → Test
relation_test c v w = and_test (and_test (in_layers v) (in_layers w)) (λ p. check_both (compared c) (value v p) (value w p))

-- an expression's test; the empty expression is always Yes
abbrev pub meaning : Tree → Test
meaning trees.everything = (λ p. Yes)
meaning (trees.test primitive) = primitive_test primitive
meaning (trees.relation c v w) = relation_test c v w
meaning (trees.negation t) = not_test (meaning t)
meaning (trees.both t u) = and_test (meaning t) (meaning u)
meaning (trees.either t u) = or_test (meaning t) (meaning u)

abbrev pub is_yes : Verdict → Bool
is_yes Yes = true
is_yes No = false
is_yes Abort = false

-- an expression accepts a packet exactly where the whole is Yes
abbrev pub accepts : Tree → Packet → Bool
accepts t p = is_yes (meaning t p)
