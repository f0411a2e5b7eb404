-- The tokens of a primitive's canonical text are read as it.
use Rattle.std.proofs.Common.{◌≡◌, ℕ, ◌<◌, ◌≤◌, true, List, [], ◌∷◌, Option, Some, None, refl, sym, subst, arith, ◌==◌, le-leb, min, max, nat_le}
use Rattle.std.specs.Prelude.{◌&&◌, bit_and, option_map}
use Rattle.std.specs.Int.{w32, leading_ones, bit_not}
use Rattle.std.proofs.lemmas.Bool.{eqb-true}
use Rattle.std.proofs.lemmas.Nat.{leading_le}
use Rattle.filterlang.specs.declared.token.Kind.{Kind}
use Rattle.filterlang.specs.declared.token.Kind.TheVariants as kind
use Rattle.filterlang.specs.declared.token.Protocol.TheVariants as protocols
use Rattle.filterlang.specs.declared.token.TypeWord.TheVariants as types
use Rattle.filterlang.specs.declared.token.Parts.TheVariants.{Four}
use Rattle.filter_tree.specs.declared.tree.Operator.TheVariants.{Minus, Divide}
use Rattle.filter_tree.specs.declared.tree.EthernetAddress.{EthernetAddress}
use Rattle.filter_tree.specs.declared.tree.Direction.{Direction}
use Rattle.filter_tree.specs.declared.tree.Direction.TheVariants.{Dst, Src, SrcAndDst, SrcOrDst}
use Rattle.filter_tree.specs.declared.tree.Network.{Network}
use Rattle.filter_tree.specs.declared.tree.Network.TheVariants as networks
use Rattle.filter_tree.specs.declared.tree.Plain.{Plain}
use Rattle.filter_tree.specs.declared.tree.Plain.TheVariants as plain
use Rattle.filter_tree.specs.declared.tree.Primitive.{Primitive}
use Rattle.filter_tree.specs.declared.tree.Primitive.TheVariants as primitives
use Rattle.filter_tree.specs.declared.tree.Transport.{Transport}
use Rattle.filter_tree.specs.declared.tree.Transport.TheVariants as transports
use Rattle.filterlang.specs.Phrases.{identifier_at}
use Rattle.filterlang.specs.Qualifiers.{mask_of, port_of}
use Rattle.filterlang.specs.Primitives.{ports_between, stands_alone}
use Rattle.filterlang.specs.Grammar.{Prim, prim_plain, prim_ether_broadcast, prim_ether_multicast, prim_ip_multicast, prim_less, prim_greater, prim_phrase, prim_portrange}
use Rattle.filter_print_laws.proofs.Sequences.{plain_word, network_tokens, transport_tokens, direction_tokens, mask_tokens, net_tokens, ports_tokens, primitive_tokens}
use Rattle.filter_print_laws.proofs.Terms.{IsPrimitive, Stops, stops_end, stops_close, stops_joint, Nearest, IsPrimRead, either_of}

-- a dotted address alone
dotted_alone : (address : ℕ) (ks : List Kind) → Stops ks → identifier_at (kind.Dotted address Four ∷ ks) ≡ option_map (λ x. (x.0, ks)) (identifier_at (kind.Dotted address Four ∷ []))
dotted_alone address ks stops_end = refl
dotted_alone address ks stops_close = refl
dotted_alone address ks stops_joint = refl

-- a host
host_prim : (q : Nearest) (network : Option Network) (direction : Direction) (address : ℕ) (ks : List Kind) → Stops ks → IsPrimRead q (network_tokens network (direction_tokens direction (kind.Type types.Host ∷ kind.Dotted address Four ∷ ks))) (primitives.Net network direction address 4294967295) ks
host_prim q None Src address ks s = (Some _, prim_phrase refl refl refl (dotted_alone address ks s) refl)
host_prim q None Dst address ks s = (Some _, prim_phrase refl refl refl (dotted_alone address ks s) refl)
host_prim q None SrcOrDst address ks s = (Some _, prim_phrase refl refl refl (dotted_alone address ks s) refl)
host_prim q None SrcAndDst address ks s = (Some _, prim_phrase refl refl refl (dotted_alone address ks s) refl)
host_prim q (Some networks.Ip) Src address ks s = (Some _, prim_phrase refl refl refl (dotted_alone address ks s) refl)
host_prim q (Some networks.Ip) Dst address ks s = (Some _, prim_phrase refl refl refl (dotted_alone address ks s) refl)
host_prim q (Some networks.Ip) SrcOrDst address ks s = (Some _, prim_phrase refl refl refl (dotted_alone address ks s) refl)
host_prim q (Some networks.Ip) SrcAndDst address ks s = (Some _, prim_phrase refl refl refl (dotted_alone address ks s) refl)
host_prim q (Some networks.Arp) Src address ks s = (Some _, prim_phrase refl refl refl (dotted_alone address ks s) refl)
host_prim q (Some networks.Arp) Dst address ks s = (Some _, prim_phrase refl refl refl (dotted_alone address ks s) refl)
host_prim q (Some networks.Arp) SrcOrDst address ks s = (Some _, prim_phrase refl refl refl (dotted_alone address ks s) refl)
host_prim q (Some networks.Arp) SrcAndDst address ks s = (Some _, prim_phrase refl refl refl (dotted_alone address ks s) refl)
host_prim q (Some networks.Rarp) Src address ks s = (Some _, prim_phrase refl refl refl (dotted_alone address ks s) refl)
host_prim q (Some networks.Rarp) Dst address ks s = (Some _, prim_phrase refl refl refl (dotted_alone address ks s) refl)
host_prim q (Some networks.Rarp) SrcOrDst address ks s = (Some _, prim_phrase refl refl refl (dotted_alone address ks s) refl)
host_prim q (Some networks.Rarp) SrcAndDst address ks s = (Some _, prim_phrase refl refl refl (dotted_alone address ks s) refl)

-- a net, by how many bits its mask has
prefix_prim : (q : Nearest) (network : Option Network) (direction : Direction) (address bits : ℕ) (ks : List Kind) → nat_le bits 32 ≡ true → (bit_and address (mask_of bits) == address) ≡ true → IsPrimRead q (network_tokens network (direction_tokens direction (kind.Type types.Net ∷ kind.Dotted address Four ∷ kind.Operator Divide ∷ kind.Number bits ∷ ks))) (primitives.Net network direction address (mask_of bits)) ks
prefix_prim q None Src address bits ks few inside = (Some _, prim_phrase refl refl refl refl (rw (few, inside) refl))
prefix_prim q None Dst address bits ks few inside = (Some _, prim_phrase refl refl refl refl (rw (few, inside) refl))
prefix_prim q None SrcOrDst address bits ks few inside = (Some _, prim_phrase refl refl refl refl (rw (few, inside) refl))
prefix_prim q None SrcAndDst address bits ks few inside = (Some _, prim_phrase refl refl refl refl (rw (few, inside) refl))
prefix_prim q (Some networks.Ip) Src address bits ks few inside = (Some _, prim_phrase refl refl refl refl (rw (few, inside) refl))
prefix_prim q (Some networks.Ip) Dst address bits ks few inside = (Some _, prim_phrase refl refl refl refl (rw (few, inside) refl))
prefix_prim q (Some networks.Ip) SrcOrDst address bits ks few inside = (Some _, prim_phrase refl refl refl refl (rw (few, inside) refl))
prefix_prim q (Some networks.Ip) SrcAndDst address bits ks few inside = (Some _, prim_phrase refl refl refl refl (rw (few, inside) refl))
prefix_prim q (Some networks.Arp) Src address bits ks few inside = (Some _, prim_phrase refl refl refl refl (rw (few, inside) refl))
prefix_prim q (Some networks.Arp) Dst address bits ks few inside = (Some _, prim_phrase refl refl refl refl (rw (few, inside) refl))
prefix_prim q (Some networks.Arp) SrcOrDst address bits ks few inside = (Some _, prim_phrase refl refl refl refl (rw (few, inside) refl))
prefix_prim q (Some networks.Arp) SrcAndDst address bits ks few inside = (Some _, prim_phrase refl refl refl refl (rw (few, inside) refl))
prefix_prim q (Some networks.Rarp) Src address bits ks few inside = (Some _, prim_phrase refl refl refl refl (rw (few, inside) refl))
prefix_prim q (Some networks.Rarp) Dst address bits ks few inside = (Some _, prim_phrase refl refl refl refl (rw (few, inside) refl))
prefix_prim q (Some networks.Rarp) SrcOrDst address bits ks few inside = (Some _, prim_phrase refl refl refl refl (rw (few, inside) refl))
prefix_prim q (Some networks.Rarp) SrcAndDst address bits ks few inside = (Some _, prim_phrase refl refl refl refl (rw (few, inside) refl))

-- and by its mask
masked_prim : (q : Nearest) (network : Option Network) (direction : Direction) (address mask : ℕ) (ks : List Kind) → (bit_and address mask == address) ≡ true → IsPrimRead q (network_tokens network (direction_tokens direction (kind.Type types.Net ∷ kind.Dotted address Four ∷ kind.Mask ∷ kind.Dotted mask Four ∷ ks))) (primitives.Net network direction address mask) ks
masked_prim q None Src address mask ks inside = (Some _, prim_phrase refl refl refl refl (rw inside refl))
masked_prim q None Dst address mask ks inside = (Some _, prim_phrase refl refl refl refl (rw inside refl))
masked_prim q None SrcOrDst address mask ks inside = (Some _, prim_phrase refl refl refl refl (rw inside refl))
masked_prim q None SrcAndDst address mask ks inside = (Some _, prim_phrase refl refl refl refl (rw inside refl))
masked_prim q (Some networks.Ip) Src address mask ks inside = (Some _, prim_phrase refl refl refl refl (rw inside refl))
masked_prim q (Some networks.Ip) Dst address mask ks inside = (Some _, prim_phrase refl refl refl refl (rw inside refl))
masked_prim q (Some networks.Ip) SrcOrDst address mask ks inside = (Some _, prim_phrase refl refl refl refl (rw inside refl))
masked_prim q (Some networks.Ip) SrcAndDst address mask ks inside = (Some _, prim_phrase refl refl refl refl (rw inside refl))
masked_prim q (Some networks.Arp) Src address mask ks inside = (Some _, prim_phrase refl refl refl refl (rw inside refl))
masked_prim q (Some networks.Arp) Dst address mask ks inside = (Some _, prim_phrase refl refl refl refl (rw inside refl))
masked_prim q (Some networks.Arp) SrcOrDst address mask ks inside = (Some _, prim_phrase refl refl refl refl (rw inside refl))
masked_prim q (Some networks.Arp) SrcAndDst address mask ks inside = (Some _, prim_phrase refl refl refl refl (rw inside refl))
masked_prim q (Some networks.Rarp) Src address mask ks inside = (Some _, prim_phrase refl refl refl refl (rw inside refl))
masked_prim q (Some networks.Rarp) Dst address mask ks inside = (Some _, prim_phrase refl refl refl refl (rw inside refl))
masked_prim q (Some networks.Rarp) SrcOrDst address mask ks inside = (Some _, prim_phrase refl refl refl refl (rw inside refl))
masked_prim q (Some networks.Rarp) SrcAndDst address mask ks inside = (Some _, prim_phrase refl refl refl refl (rw inside refl))

-- a port
port_prim : (q : Nearest) (transport : Option Transport) (direction : Direction) (n : ℕ) (ks : List Kind) → port_of n ≡ Some n → IsPrimRead q (transport_tokens transport (direction_tokens direction (kind.Type types.Port ∷ kind.Number n ∷ ks))) (primitives.Ports transport direction n n) ks
port_prim q None Src n ks port = (Some _, prim_phrase refl refl refl refl (rw port refl))
port_prim q None Dst n ks port = (Some _, prim_phrase refl refl refl refl (rw port refl))
port_prim q None SrcOrDst n ks port = (Some _, prim_phrase refl refl refl refl (rw port refl))
port_prim q None SrcAndDst n ks port = (Some _, prim_phrase refl refl refl refl (rw port refl))
port_prim q (Some transports.Tcp) Src n ks port = (Some _, prim_phrase refl refl refl refl (rw port refl))
port_prim q (Some transports.Tcp) Dst n ks port = (Some _, prim_phrase refl refl refl refl (rw port refl))
port_prim q (Some transports.Tcp) SrcOrDst n ks port = (Some _, prim_phrase refl refl refl refl (rw port refl))
port_prim q (Some transports.Tcp) SrcAndDst n ks port = (Some _, prim_phrase refl refl refl refl (rw port refl))
port_prim q (Some transports.Udp) Src n ks port = (Some _, prim_phrase refl refl refl refl (rw port refl))
port_prim q (Some transports.Udp) Dst n ks port = (Some _, prim_phrase refl refl refl refl (rw port refl))
port_prim q (Some transports.Udp) SrcOrDst n ks port = (Some _, prim_phrase refl refl refl refl (rw port refl))
port_prim q (Some transports.Udp) SrcAndDst n ks port = (Some _, prim_phrase refl refl refl refl (rw port refl))
port_prim q (Some transports.Sctp) Src n ks port = (Some _, prim_phrase refl refl refl refl (rw port refl))
port_prim q (Some transports.Sctp) Dst n ks port = (Some _, prim_phrase refl refl refl refl (rw port refl))
port_prim q (Some transports.Sctp) SrcOrDst n ks port = (Some _, prim_phrase refl refl refl refl (rw port refl))
port_prim q (Some transports.Sctp) SrcAndDst n ks port = (Some _, prim_phrase refl refl refl refl (rw port refl))

-- a range of ports
range_prim : (q : Nearest) (transport : Option Transport) (direction : Direction) (low high : ℕ) (ks : List Kind) → ports_between transport direction low high ≡ Some (primitives.Ports transport direction low high) → IsPrimRead q (transport_tokens transport (direction_tokens direction (kind.PortRange ∷ kind.Number low ∷ kind.Operator Minus ∷ kind.Number high ∷ ks))) (primitives.Ports transport direction low high) ks
range_prim q None Src low high ks between = (None, prim_portrange refl refl refl between)
range_prim q None Dst low high ks between = (None, prim_portrange refl refl refl between)
range_prim q None SrcOrDst low high ks between = (None, prim_portrange refl refl refl between)
range_prim q None SrcAndDst low high ks between = (None, prim_portrange refl refl refl between)
range_prim q (Some transports.Tcp) Src low high ks between = (None, prim_portrange refl refl refl between)
range_prim q (Some transports.Tcp) Dst low high ks between = (None, prim_portrange refl refl refl between)
range_prim q (Some transports.Tcp) SrcOrDst low high ks between = (None, prim_portrange refl refl refl between)
range_prim q (Some transports.Tcp) SrcAndDst low high ks between = (None, prim_portrange refl refl refl between)
range_prim q (Some transports.Udp) Src low high ks between = (None, prim_portrange refl refl refl between)
range_prim q (Some transports.Udp) Dst low high ks between = (None, prim_portrange refl refl refl between)
range_prim q (Some transports.Udp) SrcOrDst low high ks between = (None, prim_portrange refl refl refl between)
range_prim q (Some transports.Udp) SrcAndDst low high ks between = (None, prim_portrange refl refl refl between)
range_prim q (Some transports.Sctp) Src low high ks between = (None, prim_portrange refl refl refl between)
range_prim q (Some transports.Sctp) Dst low high ks between = (None, prim_portrange refl refl refl between)
range_prim q (Some transports.Sctp) SrcOrDst low high ks between = (None, prim_portrange refl refl refl between)
range_prim q (Some transports.Sctp) SrcAndDst low high ks between = (None, prim_portrange refl refl refl between)

-- an Ethernet address
ether_prim : (q : Nearest) (direction : Direction) (address : EthernetAddress) (ks : List Kind) → IsPrimRead q (kind.Protocol protocols.Ether ∷ direction_tokens direction (kind.Type types.Host ∷ kind.Ethernet address ∷ ks)) (primitives.EtherHost direction address) ks
ether_prim q Src address ks = (Some _, prim_phrase refl refl refl refl refl)
ether_prim q Dst address ks = (Some _, prim_phrase refl refl refl refl refl)
ether_prim q SrcOrDst address ks = (Some _, prim_phrase refl refl refl refl refl)
ether_prim q SrcAndDst address ks = (Some _, prim_phrase refl refl refl refl refl)

-- a protocol word alone
alone : (p : Plain) (ks : List Kind) → Stops ks → stands_alone (plain_word p) ks ≡ true
alone plain.Ip ks stops_end = refl
alone plain.Ip ks stops_close = refl
alone plain.Ip ks stops_joint = refl
alone plain.Arp ks stops_end = refl
alone plain.Arp ks stops_close = refl
alone plain.Arp ks stops_joint = refl
alone plain.Rarp ks stops_end = refl
alone plain.Rarp ks stops_close = refl
alone plain.Rarp ks stops_joint = refl
alone plain.Tcp ks stops_end = refl
alone plain.Tcp ks stops_close = refl
alone plain.Tcp ks stops_joint = refl
alone plain.Udp ks stops_end = refl
alone plain.Udp ks stops_close = refl
alone plain.Udp ks stops_joint = refl
alone plain.Icmp ks stops_end = refl
alone plain.Icmp ks stops_close = refl
alone plain.Icmp ks stops_joint = refl
alone plain.Sctp ks stops_end = refl
alone plain.Sctp ks stops_close = refl
alone plain.Sctp ks stops_joint = refl

-- so it is a primitive
plain_prim : (q : Nearest) (p : Plain) (ks : List Kind) → Stops ks → IsPrimRead q (kind.Protocol (plain_word p) ∷ ks) (primitives.Protocol p) ks
plain_prim q plain.Ip ks stops_end = (None, prim_plain {protocol = protocols.Ip} refl refl refl)
plain_prim q plain.Ip ks stops_close = (None, prim_plain {protocol = protocols.Ip} refl refl refl)
plain_prim q plain.Ip ks stops_joint = (None, prim_plain {protocol = protocols.Ip} refl refl refl)
plain_prim q plain.Arp ks stops_end = (None, prim_plain {protocol = protocols.Arp} refl refl refl)
plain_prim q plain.Arp ks stops_close = (None, prim_plain {protocol = protocols.Arp} refl refl refl)
plain_prim q plain.Arp ks stops_joint = (None, prim_plain {protocol = protocols.Arp} refl refl refl)
plain_prim q plain.Rarp ks stops_end = (None, prim_plain {protocol = protocols.Rarp} refl refl refl)
plain_prim q plain.Rarp ks stops_close = (None, prim_plain {protocol = protocols.Rarp} refl refl refl)
plain_prim q plain.Rarp ks stops_joint = (None, prim_plain {protocol = protocols.Rarp} refl refl refl)
plain_prim q plain.Tcp ks stops_end = (None, prim_plain {protocol = protocols.Tcp} refl refl refl)
plain_prim q plain.Tcp ks stops_close = (None, prim_plain {protocol = protocols.Tcp} refl refl refl)
plain_prim q plain.Tcp ks stops_joint = (None, prim_plain {protocol = protocols.Tcp} refl refl refl)
plain_prim q plain.Udp ks stops_end = (None, prim_plain {protocol = protocols.Udp} refl refl refl)
plain_prim q plain.Udp ks stops_close = (None, prim_plain {protocol = protocols.Udp} refl refl refl)
plain_prim q plain.Udp ks stops_joint = (None, prim_plain {protocol = protocols.Udp} refl refl refl)
plain_prim q plain.Icmp ks stops_end = (None, prim_plain {protocol = protocols.Icmp} refl refl refl)
plain_prim q plain.Icmp ks stops_close = (None, prim_plain {protocol = protocols.Icmp} refl refl refl)
plain_prim q plain.Icmp ks stops_joint = (None, prim_plain {protocol = protocols.Icmp} refl refl refl)
plain_prim q plain.Sctp ks stops_end = (None, prim_plain {protocol = protocols.Sctp} refl refl refl)
plain_prim q plain.Sctp ks stops_close = (None, prim_plain {protocol = protocols.Sctp} refl refl refl)
plain_prim q plain.Sctp ks stops_joint = (None, prim_plain {protocol = protocols.Sctp} refl refl refl)

-- a number of bytes or of a protocol, and a port
port_is : (n : ℕ) → n < 65536 → port_of n ≡ Some n
port_is n small = rw (le-leb 0 n (omega arith), le-leb n 65535 (omega arith)) refl

-- two ports in order
between_is : (transport : Option Transport) (direction : Direction) (low high : ℕ) → low ≤ high → high < 65536 → ports_between transport direction low high ≡ Some (primitives.Ports transport direction low high)
between_is transport direction low high order small =
    let less : min low high ≡ low = omega arith in
    let more : max low high ≡ high = omega arith in
    rw (port_is low (omega arith), port_is high small, less, more) refl

-- a net, as its mask is written
net_prim : (q : Nearest) (network : Option Network) (direction : Direction) (address mask : ℕ) (ks : List Kind) → Stops ks → (bit_and address mask == address) ≡ true → IsPrimRead q (network_tokens network (direction_tokens direction (net_tokens address mask ks))) (primitives.Net network direction address mask) ks
net_prim q network direction address mask ks s inside =
    either_of (λ ts. IsPrimRead q (network_tokens network (direction_tokens direction ts)) (primitives.Net network direction address mask) ks)
    (mask == 4294967295) (kind.Type types.Host ∷ kind.Dotted address Four ∷ ks) (kind.Type types.Net ∷ kind.Dotted address Four ∷ mask_tokens mask ks)
    (λ e. subst (λ m. IsPrimRead q (network_tokens network (direction_tokens direction (kind.Type types.Host ∷ kind.Dotted address Four ∷ ks))) (primitives.Net network direction address m) ks) (sym (eqb-true mask 4294967295 e)) (host_prim q network direction address ks s))
    (λ e. either_of (λ ts. IsPrimRead q (network_tokens network (direction_tokens direction (kind.Type types.Net ∷ kind.Dotted address Four ∷ ts))) (primitives.Net network direction address mask) ks)
    (mask_of (leading_ones w32 mask) == mask) (kind.Operator Divide ∷ kind.Number (leading_ones w32 mask) ∷ ks) (kind.Mask ∷ kind.Dotted mask Four ∷ ks)
    (λ same.
    let is = eqb-true (mask_of (leading_ones w32 mask)) mask same in
    subst (λ m. IsPrimRead q (network_tokens network (direction_tokens direction (kind.Type types.Net ∷ kind.Dotted address Four ∷ kind.Operator Divide ∷ kind.Number (leading_ones w32 mask) ∷ ks))) (primitives.Net network direction address m) ks) is
    (prefix_prim q network direction address (leading_ones w32 mask) ks (le-leb (leading_ones w32 mask) 32 (leading_le 32 (bit_not w32 mask))) (subst (λ m. (bit_and address m == address) ≡ true) (sym is) inside)))
    (λ other. masked_prim q network direction address mask ks inside))

-- ports
ports_prim : (q : Nearest) (transport : Option Transport) (direction : Direction) (low high : ℕ) (ks : List Kind) → low ≤ high → high < 65536 → IsPrimRead q (transport_tokens transport (direction_tokens direction (ports_tokens low high ks))) (primitives.Ports transport direction low high) ks
ports_prim q transport direction low high ks order small =
    either_of (λ ts. IsPrimRead q (transport_tokens transport (direction_tokens direction ts)) (primitives.Ports transport direction low high) ks)
    (low == high) (kind.Type types.Port ∷ kind.Number low ∷ ks) (kind.PortRange ∷ kind.Number low ∷ kind.Operator Minus ∷ kind.Number high ∷ ks)
    (λ e. subst (λ m. IsPrimRead q (transport_tokens transport (direction_tokens direction (kind.Type types.Port ∷ kind.Number low ∷ ks))) (primitives.Ports transport direction low m) ks) (eqb-true low high e) (port_prim q transport direction low ks (port_is low (omega arith))))
    (λ e. range_prim q transport direction low high ks (between_is transport direction low high order small))

-- a protocol of IPv4
ip_identified : (n : ℕ) → n < 256 → (nat_le 0 n && nat_le n 255) ≡ true
ip_identified n small = rw (le-leb 0 n (omega arith), le-leb n 255 (omega arith)) refl

-- a type of frames
ether_identified : (n : ℕ) → 1500 < n → n < 65536 → (nat_le 1501 n && nat_le n 65535) ≡ true
ether_identified n some small = rw (le-leb 1501 n (omega arith), le-leb n 65535 (omega arith)) refl

-- each primitive is read from its tokens
pub primitive_read : (q : Nearest) (p : Primitive) (ks : List Kind) → IsPrimitive p → Stops ks → IsPrimRead q (primitive_tokens p ks) p ks
primitive_read q (primitives.Protocol p) ks is s = plain_prim q p ks s
primitive_read q (primitives.Net network direction address mask) ks is s = net_prim q network direction address mask ks s is.2
primitive_read q (primitives.EtherHost direction address) ks is s = ether_prim q direction address ks
primitive_read q (primitives.Ports transport direction low high) ks is s = ports_prim q transport direction low high ks is.0 is.1
primitive_read q (primitives.IpProto n) ks is s = (Some _, prim_phrase refl refl refl refl (rw (ip_identified n is) refl))
primitive_read q (primitives.EtherProto n) ks is s = (Some _, prim_phrase refl refl refl refl (rw (ether_identified n is.0 is.1) refl))
primitive_read q primitives.EtherBroadcast ks is s = (None, prim_ether_broadcast)
primitive_read q primitives.EtherMulticast ks is s = (None, prim_ether_multicast)
primitive_read q primitives.IpMulticast ks is s = (None, prim_ip_multicast)
primitive_read q (primitives.Less n) ks is s = (None, prim_less)
primitive_read q (primitives.Greater n) ks is s = (None, prim_greater)
