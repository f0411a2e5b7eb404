-- What a primitive or a relation looks at, in order, and what it answers: one table for the bytes that are printed and for the byte
-- that an Abort names. It is read beside the table of docs/LANGUAGE.md and `Meaning`, whose answers it has (`specs/Laws.antt`).
use Rattle.std.specs.Prelude.{ℕ, ◌+◌, ◌*◌, ◌%◌, ◌^◌, ◌==◌, Bool, true, false, not, List, [], ◌∷◌, ◌++◌, length, max, nat_le, Option, Some, None, Result, Ok, Err, if◌then◌else◌, bit_and}
use Rattle.bpfvm.specs.Codes.{Arithmetic, Subtract}
use Rattle.bpfvm.specs.Machine.{number_at, calculated}
use Rattle.filter_tree.specs.declared.headers.TheConstants.{ETHER_DST, ETHER_SRC, ETHER_TYPE, ETHER_HDR_LEN, ETHERTYPE_IP, ETHERTYPE_ARP, ETHERTYPE_REVARP, IP_OFF, IP_P, IP_SRC, IP_DST, IP_OFFMASK, IPPROTO_ICMP, IPPROTO_TCP, IPPROTO_UDP, IPPROTO_SCTP, ARP_SPA, ARP_TPA, SRC_PORT, DST_PORT}
use Rattle.filter_tree.specs.Trees.{Amount, Tree}
use Rattle.filter_tree.specs.Trees as trees
use Rattle.filter_tree.specs.declared.tree.Comparison.{Comparison}
use Rattle.filter_tree.specs.declared.tree.Direction.{Direction}
use Rattle.filter_tree.specs.declared.tree.Direction.TheVariants.{Src, Dst, SrcOrDst, SrcAndDst}
use Rattle.filter_tree.specs.declared.tree.Layer.{Layer}
use Rattle.filter_tree.specs.declared.tree.Layer.TheVariants as layers
use Rattle.filter_tree.specs.declared.tree.Network.{Network}
use Rattle.filter_tree.specs.declared.tree.Network.TheVariants as networks
use Rattle.filter_tree.specs.declared.tree.Transport.{Transport}
use Rattle.filter_tree.specs.declared.tree.Plain.{Plain}
use Rattle.filter_tree.specs.declared.tree.Plain.TheVariants as words
use Rattle.filter_tree.specs.declared.tree.Primitive.{Primitive}
use Rattle.filter_tree.specs.declared.tree.Primitive.TheVariants.{Protocol, Net, EtherHost, Ports, IpProto, EtherProto, EtherBroadcast, EtherMulticast, IpMulticast, Less, Greater}
use Rattle.filter_meaning.specs.declared.verdict.Verdict.{Verdict}
use Rattle.filter_meaning.specs.declared.verdict.Verdict.TheVariants.{Abort}
use Rattle.filter_meaning.specs.Meaning.{Packet, packet_of, decided, within, address_number, protocol_number, arithmetic_of, bytes_of, compared}
use Rattle.filter_meaning.specs.declared.cause.AbortCause.{AbortCause}
use Rattle.filter_meaning.specs.declared.cause.AbortCause.TheVariants.{NotCaptured, ZeroDivisor}
use Rattle.filter_meaning.specs.declared.frame.Look.{Look}
use Rattle.filter_meaning.specs.declared.frame.Look.TheVariants.{Bytes, Length}
use Rattle.filter_meaning.specs.declared.frame.Frame.{Frame}

-- how a packet of the code is seen
abbrev pub packet : Frame → Packet
packet frame = packet_of frame.bytes.now frame.wire

-- the first byte from an offset of the frame on that was not captured
abbrev pub first_uncaptured : (offset : ℕ) → Packet → AbortCause
first_uncaptured offset p = NotCaptured (max offset (length p.captured))

-- a number, or why there is none
abbrev pub or_cause : AbortCause → Option ℕ → Result ℕ AbortCause
or_cause cause None = Err cause
or_cause cause (Some n) = Ok n

-- `size` captured bytes at an offset of the frame, as a number
abbrev pub read : (offset size : ℕ) → Packet → Result ℕ AbortCause
read offset size p = or_cause (first_uncaptured offset p) (number_at p.captured offset size)

-- What a test answers, true or false or why it aborts, and what it looks at, in order.
pub record Asked : Type 0 where
  pub answer : Result Bool AbortCause
  pub looks : List Look

abbrev pub asked : Result Bool AbortCause → List Look → Asked
asked answer looks = record { answer = answer; looks = looks }

-- What a value is, or why it is nothing, and what it looks at, in order.
pub record Found : Type 0 where
  pub number : Result ℕ AbortCause
  pub looks : List Look

abbrev pub found : Result ℕ AbortCause → List Look → Found
found number looks = record { number = number; looks = looks }

-- From left to right, and no farther than needed: the second operand of `and` is looked at only after a Yes, that of `or` only after a No.
abbrev pub after_yes : Result Bool AbortCause → List Look → Asked → Asked
after_yes (Ok true) looks next = asked next.answer (looks ++ next.looks)
after_yes (Ok false) looks next = asked (Ok false) looks
after_yes (Err cause) looks next = asked (Err cause) looks

abbrev pub after_no : Result Bool AbortCause → List Look → Asked → Asked
after_no (Ok true) looks next = asked (Ok true) looks
after_no (Ok false) looks next = asked next.answer (looks ++ next.looks)
after_no (Err cause) looks next = asked (Err cause) looks

abbrev pub both : Asked → Asked → Asked
both first second = after_yes first.answer first.looks second

abbrev pub either : Asked → Asked → Asked
either first second = after_no first.answer first.looks second

-- a value that depends on another one, and a test of a value
abbrev pub after_number : Result ℕ AbortCause → List Look → (ℕ → Found) → Found
after_number (Ok n) looks next = found (next n).number (looks ++ (next n).looks)
after_number (Err cause) looks next = found (Err cause) looks

abbrev pub then_found : Found → (ℕ → Found) → Found
then_found first next = after_number first.number first.looks next

abbrev pub after_number_asked : Result ℕ AbortCause → List Look → (ℕ → Asked) → Asked
after_number_asked (Ok n) looks next = asked (next n).answer (looks ++ (next n).looks)
after_number_asked (Err cause) looks next = asked (Err cause) looks

abbrev pub then_asked : Found → (ℕ → Asked) → Asked
then_asked first next = after_number_asked first.number first.looks next

-- `size` bytes at an offset of the frame, and a condition on the number that they are
abbrev pub bytes_found : (offset size : ℕ) → Packet → Found
bytes_found offset size p = found (read offset size p) (Bytes offset size ∷ [])

abbrev pub field : (offset size : ℕ) → (ℕ → Bool) → Packet → Asked
field offset size condition p = then_asked (bytes_found offset size p) (λ n. asked (Ok (condition n)) [])

-- the length on the wire, and a condition on it
abbrev pub wire_field : (ℕ → Bool) → Packet → Asked
wire_field condition p = asked (Ok (condition p.wire)) (Length ∷ [])

-- ---- Primitives

-- the Ethernet type; after it the protocol number of IPv4; after both the fragment's offset
abbrev pub type_asked : ℕ → Packet → Asked
type_asked number p = field ETHER_TYPE 2 (λ h. h == number) p

abbrev pub protocol_asked : ℕ → Packet → Asked
protocol_asked number p = both (type_asked ETHERTYPE_IP p) (field IP_P 1 (λ b. b == number) p)

abbrev pub first_fragment_asked : ℕ → Packet → Asked
first_fragment_asked number p = both (protocol_asked number p) (field IP_OFF 2 (λ h. bit_and h IP_OFFMASK == 0) p)

abbrev pub plain_asked : Plain → Packet → Asked
plain_asked words.Ip p = type_asked ETHERTYPE_IP p
plain_asked words.Arp p = type_asked ETHERTYPE_ARP p
plain_asked words.Rarp p = type_asked ETHERTYPE_REVARP p
plain_asked words.Icmp p = protocol_asked IPPROTO_ICMP p
plain_asked words.Tcp p = protocol_asked IPPROTO_TCP p
plain_asked words.Udp p = protocol_asked IPPROTO_UDP p
plain_asked words.Sctp p = protocol_asked IPPROTO_SCTP p

-- A side of a packet, at an offset: an address of four bytes under a mask, an Ethernet address, or a port. A port's offset counts from the
-- end of the IPv4 header, whose length is looked at first.
abbrev pub address_asked : (address mask : ℕ) → ℕ → Packet → Asked
address_asked address mask offset p = field offset 4 (λ w. bit_and w mask == address) p

abbrev pub ether_asked : ℕ → ℕ → Packet → Asked
ether_asked address offset p = field offset 6 (λ n. n == address) p

abbrev pub port_asked : (low high : ℕ) → ℕ → Packet → Asked
port_asked low high offset p =
    then_asked (bytes_found ETHER_HDR_LEN 1 p) (λ b. field (ETHER_HDR_LEN + 4 * bit_and b 15 + offset) 2 (within low high) p)

-- the sides that a direction chooses, the source's first
abbrev pub directed_asked : Direction → (ℕ → Packet → Asked) → (source destination : ℕ) → Packet → Asked
directed_asked Src side source destination p = side source p
directed_asked Dst side source destination p = side destination p
directed_asked SrcOrDst side source destination p = either (side source p) (side destination p)
directed_asked SrcAndDst side source destination p = both (side source p) (side destination p)

-- the addresses of IPv4, and those of ARP and RARP
abbrev pub net_asked : Network → Direction → (ℕ → Packet → Asked) → Packet → Asked
net_asked networks.Ip direction side p = both (type_asked ETHERTYPE_IP p) (directed_asked direction side IP_SRC IP_DST p)
net_asked networks.Arp direction side p = both (type_asked ETHERTYPE_ARP p) (directed_asked direction side ARP_SPA ARP_TPA p)
net_asked networks.Rarp direction side p = both (type_asked ETHERTYPE_REVARP p) (directed_asked direction side ARP_SPA ARP_TPA p)

abbrev pub any_net_asked : Option Network → Direction → (ℕ → Packet → Asked) → Packet → Asked
any_net_asked (Some network) direction side p = net_asked network direction side p
any_net_asked None direction side p =
    either (either (net_asked networks.Ip direction side p) (net_asked networks.Arp direction side p)) (net_asked networks.Rarp direction side p)

-- the ports of a protocol number
abbrev pub ports_asked : ℕ → Direction → (ℕ → Packet → Asked) → Packet → Asked
ports_asked number direction side p = both (first_fragment_asked number p) (directed_asked direction side SRC_PORT DST_PORT p)

abbrev pub any_ports_asked : Option Transport → Direction → (ℕ → Packet → Asked) → Packet → Asked
any_ports_asked (Some transport) direction side p = ports_asked (protocol_number transport) direction side p
any_ports_asked None direction side p =
    either (either (ports_asked IPPROTO_TCP direction side p) (ports_asked IPPROTO_UDP direction side p)) (ports_asked IPPROTO_SCTP direction side p)

abbrev pub primitive_asked : Primitive → Packet → Asked
primitive_asked (Protocol word) p = plain_asked word p
primitive_asked (Net network direction address mask) p = any_net_asked network direction (address_asked address mask) p
primitive_asked (EtherHost direction address) p = directed_asked direction (ether_asked (address_number address.octets)) ETHER_SRC ETHER_DST p
primitive_asked (Ports transport direction low high) p = any_ports_asked transport direction (port_asked low high) p
primitive_asked (IpProto number) p = protocol_asked number p
primitive_asked (EtherProto number) p = type_asked number p
primitive_asked EtherBroadcast p = ether_asked 0xffffffffffff ETHER_DST p
primitive_asked EtherMulticast p = field ETHER_DST 1 (λ b. not (bit_and b 1 == 0)) p
primitive_asked IpMulticast p = both (type_asked ETHERTYPE_IP p) (field IP_DST 1 (λ b. nat_le 224 b) p)
primitive_asked (Less n) p = wire_field (λ wire. nat_le wire n) p
primitive_asked (Greater n) p = wire_field (λ wire. nat_le n wire) p

-- ---- Values and relations

-- proto[i:size]: at an index of the frame, or past the Ethernet header, or past the IPv4 header, whose length is looked at first
abbrev pub behind_header_found : (size index : ℕ) → Packet → Found
behind_header_found size index p =
    then_found (bytes_found ETHER_HDR_LEN 1 p) (λ b. bytes_found (ETHER_HDR_LEN + (index + 4 * bit_and b 15) % 2 ^ 32) size p)

abbrev pub access_found : Layer → (size index : ℕ) → Packet → Found
access_found layers.Ether size index p = bytes_found index size p
access_found layers.Ip size index p = bytes_found (ETHER_HDR_LEN + index) size p
access_found layers.Arp size index p = bytes_found (ETHER_HDR_LEN + index) size p
access_found layers.Rarp size index p = bytes_found (ETHER_HDR_LEN + index) size p
access_found layers.Tcp size index p = behind_header_found size index p
access_found layers.Udp size index p = behind_header_found size index p
access_found layers.Icmp size index p = behind_header_found size index p

-- what an operator makes of two numbers; it makes nothing only where the divisor of `/` or `%` is 0
abbrev pub calculated_found : Arithmetic → (a b : ℕ) → Result ℕ AbortCause
calculated_found operator a b = or_cause ZeroDivisor (calculated operator a b)

abbrev pub value_found : Amount → Packet → Found
value_found (trees.number n) p = found (Ok n) []
value_found trees.wire_length p = found (Ok p.wire) (Length ∷ [])
value_found (trees.minus v) p = then_found (value_found v p) (λ n. found (calculated_found Subtract 0 n) [])
value_found (trees.binary o v w) p =
    then_found (value_found v p) (λ a. then_found (value_found w p) (λ b. found (calculated_found (arithmetic_of o) a b) []))
value_found (trees.accessor layer v size) p = then_found (value_found v p) (λ i. access_found layer (bytes_of size) i p)

-- the layer that an accessor reads
abbrev pub layer_asked : Layer → Packet → Asked
layer_asked layers.Ether p = asked (Ok true) []
layer_asked layers.Ip p = type_asked ETHERTYPE_IP p
layer_asked layers.Arp p = type_asked ETHERTYPE_ARP p
layer_asked layers.Rarp p = type_asked ETHERTYPE_REVARP p
layer_asked layers.Tcp p = first_fragment_asked IPPROTO_TCP p
layer_asked layers.Udp p = first_fragment_asked IPPROTO_UDP p
layer_asked layers.Icmp p = first_fragment_asked IPPROTO_ICMP p

abbrev pub layers_asked : Amount → Packet → Asked
layers_asked (trees.number n) p = asked (Ok true) []
layers_asked trees.wire_length p = asked (Ok true) []
layers_asked (trees.minus v) p = layers_asked v p
layers_asked (trees.binary o v w) p = both (layers_asked v p) (layers_asked w p)
layers_asked (trees.accessor layer v size) p = both (layer_asked layer p) (layers_asked v p)

abbrev pub relation_asked : Comparison → Amount → Amount → Packet → Asked
relation_asked c v w p =
    both (both (layers_asked v p) (layers_asked w p))
    (then_asked (value_found v p) (λ a. then_asked (value_found w p) (λ b. asked (Ok (compared c a b)) [])))

-- ---- Whole parts of an expression

-- what a primitive or a relation is asked; of `not`, `and` and `or` their parts are asked
abbrev pub part_asked : Tree → Packet → Asked
part_asked trees.everything p = asked (Ok true) []
part_asked (trees.test q) p = primitive_asked q p
part_asked (trees.relation c v w) p = relation_asked c v w p
part_asked (trees.negation t) p = asked (Ok true) []
part_asked (trees.both t u) p = asked (Ok true) []
part_asked (trees.either t u) p = asked (Ok true) []

abbrev pub looks : Tree → Packet → List Look
looks t p = (part_asked t p).looks

-- the verdict that an answer is
abbrev pub verdict_of : Result Bool AbortCause → Verdict
verdict_of (Ok answer) = decided answer
verdict_of (Err cause) = Abort

abbrev pub cause_in : Result Bool AbortCause → Option AbortCause
cause_in (Ok answer) = None
cause_in (Err cause) = Some cause

-- why a primitive or a relation aborts, if it does
abbrev pub why : Tree → Packet → Option AbortCause
why t p = cause_in (part_asked t p).answer
