-- A primitive in the words of pcap-filter(7): its qualifiers in full, numbers decimal, addresses dotted or with colons.
use Rattle.std.specs.Prelude.{ℕ, List, [], ◌++◌, ◌==◌, ◌/◌, ◌%◌, if◌then◌else◌, false, Option, Some, None, codes, slice_index}
use Rattle.std.specs.Fmt.{decimal, digits}
use Rattle.std.specs.Int.{w32, to_be_bytes, leading_ones}
use Rattle.std.specs.Net.Text.{ipv4_text}
use Rattle.filterlang.specs.Qualifiers.{mask_of}
use Rattle.filter_print.specs.Types.{Direction, Src, Dst, SrcOrDst, SrcAndDst, Network, Transport, Plain, Primitive}
use Rattle.filter_print.specs.Types.networks
use Rattle.filter_print.specs.Types.transports
use Rattle.filter_print.specs.Types.plain
use Rattle.filter_print.specs.Types.primitives

abbrev pub plain_text : Plain → List ℕ
plain_text plain.Ip = codes "ip"
plain_text plain.Arp = codes "arp"
plain_text plain.Rarp = codes "rarp"
plain_text plain.Tcp = codes "tcp"
plain_text plain.Udp = codes "udp"
plain_text plain.Icmp = codes "icmp"
plain_text plain.Sctp = codes "sctp"

abbrev pub network_text : Option Network → List ℕ
network_text None = []
network_text (Some networks.Ip) = codes "ip "
network_text (Some networks.Arp) = codes "arp "
network_text (Some networks.Rarp) = codes "rarp "

abbrev pub transport_text : Option Transport → List ℕ
transport_text None = []
transport_text (Some transports.Tcp) = codes "tcp "
transport_text (Some transports.Udp) = codes "udp "
transport_text (Some transports.Sctp) = codes "sctp "

-- source or destination is what no direction says
abbrev pub direction_text : Direction → List ℕ
direction_text Src = codes "src "
direction_text Dst = codes "dst "
direction_text SrcOrDst = []
direction_text SrcAndDst = codes "src and dst "

-- `10.0.0.1`
unfoldable pub address_text : ℕ → List ℕ
address_text address = ipv4_text (to_be_bytes w32 address)

-- two hexadecimal digits
abbrev pub octet_text : ℕ → List ℕ
octet_text octet = digits 16 false (octet / 16) ++ digits 16 false (octet % 16)

-- three octets with colons between them
unfoldable pub octets_text : ℕ → ℕ → ℕ → List ℕ
octets_text a b c = octet_text a ++ codes ":" ++ octet_text b ++ codes ":" ++ octet_text c

-- `00:01:02:aa:bb:cc`
unfoldable pub ethernet_text : List ℕ → List ℕ
ethernet_text octets =
    octets_text (slice_index octets 0) (slice_index octets 1) (slice_index octets 2)
    ++ (codes ":" ++ octets_text (slice_index octets 3) (slice_index octets 4) (slice_index octets 5))

-- a mask of ones and then zeros by how many ones it has, another one as an address
unfoldable pub mask_text : ℕ → List ℕ
mask_text mask =
    if mask_of (leading_ones w32 mask) == mask then codes "/" ++ decimal (leading_ones w32 mask)
    else codes " mask " ++ address_text mask

-- under a mask of ones it is a host
unfoldable pub net_text : ℕ → ℕ → List ℕ
net_text address mask =
    if mask == 4294967295 then codes "host " ++ address_text address
    else codes "net " ++ address_text address ++ mask_text mask

-- one port, or both ends of a range
unfoldable pub ports_text : ℕ → ℕ → List ℕ
ports_text low high =
    if low == high then codes "port " ++ decimal low
    else codes "portrange " ++ decimal low ++ codes "-" ++ decimal high

unfoldable pub primitive_text : Primitive → List ℕ
primitive_text (primitives.Protocol protocol) = plain_text protocol
primitive_text (primitives.Net network direction address mask) = network_text network ++ direction_text direction ++ net_text address mask
primitive_text (primitives.EtherHost direction address) = codes "ether " ++ direction_text direction ++ codes "host " ++ ethernet_text address.octets
primitive_text (primitives.Ports transport direction low high) = transport_text transport ++ direction_text direction ++ ports_text low high
primitive_text (primitives.IpProto n) = codes "ip proto " ++ decimal n
primitive_text (primitives.EtherProto n) = codes "ether proto " ++ decimal n
primitive_text primitives.EtherBroadcast = codes "ether broadcast"
primitive_text primitives.EtherMulticast = codes "ether multicast"
primitive_text primitives.IpMulticast = codes "ip multicast"
primitive_text (primitives.Less n) = codes "less " ++ decimal n
primitive_text (primitives.Greater n) = codes "greater " ++ decimal n
