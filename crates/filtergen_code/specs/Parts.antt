-- The parts of the code of primitives and relations, and how many instructions it has at most. Only private clauses use this.
use Rattle.std.specs.Prelude.{◌≡◌, ℕ, ◌==◌, ◌+◌, ◌<◌, Option, Some, None, option_and_then}
use Rattle.bpfvm.specs.Codes.{Subtract}
use Rattle.bpfvm.specs.Machine.{calculated}
use Rattle.filter_tree.specs.declared.headers.TheConstants.{ETHER_HDR_LEN, ETHERTYPE_IP, IP_P, IPPROTO_TCP, IPPROTO_UDP, IPPROTO_SCTP}
use Rattle.filter_tree.specs.Trees.{Amount, number, wire_length, minus, binary, accessor}
use Rattle.filter_tree.specs.declared.tree.Operator.{Operator}
use Rattle.filter_tree.specs.declared.tree.Operator.TheVariants as operators
use Rattle.filter_tree.specs.declared.tree.Layer.{Layer}
use Rattle.filter_tree.specs.declared.tree.Layer.TheVariants as layers
use Rattle.filter_tree.specs.declared.tree.Plain.{Plain}
use Rattle.filter_tree.specs.declared.tree.Plain.TheVariants as words
use Rattle.filter_tree.specs.declared.tree.Primitive.{Primitive}
use Rattle.filter_tree.specs.declared.tree.Primitive.TheVariants.{Protocol, Net, EtherHost, Ports, IpProto, EtherProto, EtherBroadcast, EtherMulticast, IpMulticast, Less, Greater}
use Rattle.filter_tree.specs.declared.tree.Transport.{Transport}
use Rattle.filtergen_code.specs.declared.primitives.FieldTest.{FieldTest}
use Rattle.filtergen_code.specs.declared.primitives.FieldTest.TheVariants as sides
use Rattle.filtergen_code.specs.declared.insns.Operand.{Operand}
use Rattle.filtergen_code.specs.declared.insns.Operand.TheVariants as operands
use Rattle.filtergen_code.specs.declared.values.Leaf.{Leaf}
use Rattle.filtergen_code.specs.declared.values.Leaf.TheVariants as leaves
use Rattle.filtergen_code.specs.declared.values.Base.{Base}
use Rattle.filtergen_code.specs.declared.values.Base.TheVariants as bases
use Rattle.filtergen_code.specs.Remaining.{is_unfragmented}
use Rattle.filter_meaning.specs.Meaning.{Packet, arithmetic_of, in_frame, behind_ethernet, behind_header, Test, and_test, or_test, check, byte, half, is_type, is_first_fragment_of, protocol_number, has_address, is_address, within}

abbrev pub side_cost : FieldTest → ℕ
side_cost (sides.Ip offset net) = 5
side_cost (sides.Ethernet offset address) = 8

abbrev pub side_offset : FieldTest → ℕ
side_offset (sides.Ip offset net) = offset
side_offset (sides.Ethernet offset address) = offset

abbrev pub side_test : FieldTest → Test
side_test (sides.Ip offset net) = has_address net.address net.mask offset
side_test (sides.Ethernet offset address) = is_address address.octets offset

-- a port, where the index register has the length of the IPv4 header
abbrev pub port_after : ℕ → ℕ → ℕ → ℕ → Test
port_after length low high o p = check (within low high) (half (length + (ETHER_HDR_LEN + o)) p)

-- the protocol number of TCP or of UDP
abbrev pub has_tcp_or_udp_number : Test
has_tcp_or_udp_number = or_test (λ p. check (λ b. b == IPPROTO_TCP) (byte IP_P p)) (λ p. check (λ b. b == IPPROTO_UDP) (byte IP_P p))

-- one of the protocol numbers of IPv4 that have ports
abbrev pub has_port_number : Test
has_port_number = or_test has_tcp_or_udp_number (λ p. check (λ b. b == IPPROTO_SCTP) (byte IP_P p))

-- the protocol number of a transport protocol, or of any
abbrev pub number_of : Option Transport → Test
number_of None = has_port_number
number_of (Some transport) = (λ p. check (λ b. b == protocol_number transport) (byte IP_P p))

-- a test of a first fragment of a protocol, or of any: the tcp, then the udp, then the sctp form
abbrev pub of_transport : Option Transport → Test → Test
of_transport None t = or_test (or_test (and_test (is_first_fragment_of IPPROTO_TCP) t) (and_test (is_first_fragment_of IPPROTO_UDP) t)) (and_test (is_first_fragment_of IPPROTO_SCTP) t)
of_transport (Some transport) t = and_test (is_first_fragment_of (protocol_number transport)) t

-- IPv4 with one of them, and no later fragment
abbrev pub is_any_first : Test
is_any_first = and_test (and_test (is_type ETHERTYPE_IP) has_port_number) is_unfragmented

abbrev pub plain_cost : Plain → ℕ
plain_cost words.Ip = 4
plain_cost words.Arp = 8
plain_cost words.Rarp = 8
plain_cost words.Icmp = 8
plain_cost words.Tcp = 8
plain_cost words.Udp = 8
plain_cost words.Sctp = 8

-- how many instructions a primitive takes at most
abbrev pub cost : Primitive → ℕ
cost (Protocol word) = plain_cost word
cost (Net (Some network) direction address mask) = 14
cost (Net None direction address mask) = 30
cost (EtherHost direction address) = 16
cost (Ports transport direction low high) = 33
cost (IpProto n) = 8
cost (EtherProto n) = 8
cost EtherBroadcast = 8
cost EtherMulticast = 4
cost IpMulticast = 8
cost (Less n) = 4
cost (Greater n) = 4

-- the number that a value is on every packet, where it has no accessor and no `len`, and divides by no 0
abbrev pub constant_of : Amount → Option ℕ
constant_of (number n) = Some n
constant_of wire_length = None
constant_of (minus v) = option_and_then (calculated Subtract 0) (constant_of v)
constant_of (binary o v w) = option_and_then (λ b. option_and_then (λ a. calculated (arithmetic_of o) a b) (constant_of v)) (constant_of w)
constant_of (accessor layer v size) = None

-- the value is this leaf
abbrev pub IsLeaf : Leaf → Amount → Type 0
IsLeaf (leaves.Number n) v = constant_of v ≡ Some n
IsLeaf leaves.Length v = v ≡ wire_length

-- what a leaf is of a packet
abbrev pub leaf_value : Leaf → Packet → ℕ
leaf_value (leaves.Number n) p = n
leaf_value leaves.Length p = p.wire

-- an instruction of this operator may have this constant: none divides by 0
abbrev pub IsValidConstant : Operator → ℕ → Type 0
IsValidConstant operators.Divide n = 0 < n
IsValidConstant operators.Modulo n = 0 < n
IsValidConstant other n = Unit {0}

abbrev pub MayBeOperand : Operator → Operand → Type 0
MayBeOperand operator (operands.Constant n) = IsValidConstant operator n
MayBeOperand operator operands.Index = Unit {0}

abbrev pub base_of : Layer → Base
base_of layers.Ether = bases.Frame
base_of layers.Ip = bases.Network
base_of layers.Arp = bases.Network
base_of layers.Rarp = bases.Network
base_of layers.Tcp = bases.Transport
base_of layers.Udp = bases.Transport
base_of layers.Icmp = bases.Transport

-- this many bytes at an index that is counted from a base
abbrev pub read_from : Base → ℕ → Packet → ℕ → Option ℕ
read_from bases.Frame = in_frame
read_from bases.Network = behind_ethernet
read_from bases.Transport = behind_header

-- how far a base can be from the start of the frame
abbrev pub farthest : Base → ℕ
farthest bases.Frame = 0
farthest bases.Network = ETHER_HDR_LEN
farthest bases.Transport = 74

-- how many instructions compute a value, and how many test its layers, at most
abbrev pub value_cost : Amount → ℕ
value_cost (number n) = 1
value_cost wire_length = 1
value_cost (minus v) = 1 + value_cost v
value_cost (binary o v w) = 1 + (2 + value_cost w + 1 + value_cost v)
value_cost (accessor layer v size) = 4 + value_cost v

abbrev pub layers_cost : Amount → ℕ
layers_cost (number n) = 0
layers_cost wire_length = 0
layers_cost (minus v) = layers_cost v
layers_cost (binary o v w) = layers_cost w + layers_cost v
layers_cost (accessor layer v size) = layers_cost v + 12

-- two values, one after the other
abbrev pub pair_cost : Amount → Amount → ℕ
pair_cost v w = 2 + value_cost w + 1 + value_cost v

abbrev pub compare_cost : Amount → Amount → ℕ
compare_cost v w = 3 + pair_cost v w

abbrev pub relation_cost : Amount → Amount → ℕ
relation_cost v w = compare_cost v w + (layers_cost w + layers_cost v)
