-- Which qualifiers go together, and which identifiers they take.
use Rattle.std.specs.Prelude.{ℕ, ◌-◌, ◌*◌, ◌^◌, ◌&&◌, ◌==◌, nat_le, if◌then◌else◌, Option, Some, None, option_map, unwrap_or, bit_and}
use Rattle.filter_tree.specs.declared.headers.TheConstants.{ETHERTYPE_IP, ETHERTYPE_ARP, ETHERTYPE_REVARP, IPPROTO_ICMP, IPPROTO_TCP, IPPROTO_UDP}
use Rattle.filterlang.specs.Types.{Protocol, TypeWord, Parts, Two, Three, Four, Direction, SrcOrDst, Network, Transport, Primitive, Phrase, Qualifiers, Host, Net, EtherHost, Port, IpProto, EtherProto, Identifier}
use Rattle.filterlang.specs.Types.protocols
use Rattle.filterlang.specs.Types.type_word
use Rattle.filterlang.specs.Types.networks
use Rattle.filterlang.specs.Types.transports
use Rattle.filterlang.specs.Types.primitives
use Rattle.filterlang.specs.Types.ids

-- the protocols of hosts and nets
abbrev pub network_of : Option Protocol → Option (Option Network)
network_of None = Some None
network_of (Some protocols.Ip) = Some (Some networks.Ip)
network_of (Some protocols.Arp) = Some (Some networks.Arp)
network_of (Some protocols.Rarp) = Some (Some networks.Rarp)
network_of _ = None

-- the protocols of ports
abbrev pub transport_of : Option Protocol → Option (Option Transport)
transport_of None = Some None
transport_of (Some protocols.Tcp) = Some (Some transports.Tcp)
transport_of (Some protocols.Udp) = Some (Some transports.Udp)
transport_of (Some protocols.Sctp) = Some (Some transports.Sctp)
transport_of _ = None

-- The table: the type, its protocols, its direction. A proto has no direction.
abbrev pub allowed : TypeWord → Option Protocol → Option Direction → Direction → Option Qualifiers
allowed type_word.Host (Some protocols.Ether) written direction = Some (EtherHost direction)
allowed type_word.Host protocol written direction = option_map (λ network. Host network direction) (network_of protocol)
allowed type_word.Net protocol written direction = option_map (λ network. Net network direction) (network_of protocol)
allowed type_word.Port protocol written direction = option_map (λ transport. Port transport direction) (transport_of protocol)
allowed type_word.Proto None None direction = Some IpProto
allowed type_word.Proto (Some protocols.Ip) None direction = Some IpProto
allowed type_word.Proto (Some protocols.Ether) None direction = Some EtherProto
allowed type_word.Proto protocol written direction = None

-- without a type a host is meant, without a direction source or destination
abbrev pub qualifiers_of : Phrase → Option Qualifiers
qualifiers_of phrase = allowed (unwrap_or phrase.type_word type_word.Host) phrase.protocol phrase.direction (unwrap_or phrase.direction SrcOrDst)

-- the mask with this many leading one bits
abbrev pub mask_of : ℕ → ℕ
mask_of bits = 2 ^ 32 - 2 ^ (32 - bits)

-- as many bits as the parts of a dotted address have
abbrev pub bits_of : Parts → ℕ
bits_of Two = 16
bits_of Three = 24
bits_of Four = 32

-- a net, whose address has no bits outside its mask
abbrev pub net_of : Option Network → Direction → ℕ → ℕ → Option Primitive
net_of network direction address mask =
    if bit_and address mask == address then Some (primitives.Net network direction address mask) else None

-- the value, where it is within these ends
abbrev pub between : ℕ → ℕ → ℕ → Option ℕ
between low high n = if nat_le low n && nat_le n high then Some n else None

-- a number is a port
abbrev pub port_of : ℕ → Option ℕ
port_of n = between 0 65535 n

-- The identifiers that the qualifiers take, and the test that each gives.
abbrev pub identified : Qualifiers → Identifier → Option Primitive
identified (Host network direction) (ids.Dotted address Four) = Some (primitives.Net network direction address (mask_of 32))
identified (Net network direction) (ids.Number n) =
    option_map (λ first. primitives.Net network direction (first * 2 ^ 24) (mask_of 8)) (between 0 255 n)
identified (Net network direction) (ids.Dotted address parts) = net_of network direction address (mask_of (bits_of parts))
identified (Net network direction) (ids.Prefix address bits) = if nat_le bits 32 then net_of network direction address (mask_of bits) else None
identified (Net network direction) (ids.Masked address mask Four) = net_of network direction address mask
identified (EtherHost direction) (ids.Ethernet address) = Some (primitives.EtherHost direction address)
identified (Port transport direction) (ids.Number n) = option_map (λ port. primitives.Ports transport direction port port) (port_of n)
identified IpProto (ids.Number n) = option_map primitives.IpProto (between 0 255 n)
identified IpProto (ids.Name protocols.Icmp) = Some (primitives.IpProto IPPROTO_ICMP)
identified IpProto (ids.Name protocols.Tcp) = Some (primitives.IpProto IPPROTO_TCP)
identified IpProto (ids.Name protocols.Udp) = Some (primitives.IpProto IPPROTO_UDP)
identified EtherProto (ids.Number n) = option_map primitives.EtherProto (between 1501 65535 n)
identified EtherProto (ids.Name protocols.Ip) = Some (primitives.EtherProto ETHERTYPE_IP)
identified EtherProto (ids.Name protocols.Arp) = Some (primitives.EtherProto ETHERTYPE_ARP)
identified EtherProto (ids.Name protocols.Rarp) = Some (primitives.EtherProto ETHERTYPE_REVARP)
identified _ _ = None
