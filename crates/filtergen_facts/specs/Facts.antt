-- What passed tests have shown of a packet, read off the expression.
use Rattle.std.specs.Prelude.{ℕ, ◌-◌, ◌==◌, Bool, true, false, Some, None, if◌then◌else◌}
use Rattle.filter_tree.specs.declared.headers.TheConstants.{ETHERTYPE_IP, ETHERTYPE_ARP, ETHERTYPE_REVARP, IPPROTO_ICMP, IPPROTO_TCP, IPPROTO_UDP, IPPROTO_SCTP}
use Rattle.filter_tree.specs.Trees.{Amount, Tree}
use Rattle.filter_tree.specs.Trees as trees
use Rattle.filter_tree.specs.declared.tree.Layer.{Layer}
use Rattle.filter_tree.specs.declared.tree.Layer.TheVariants as layers
use Rattle.filter_tree.specs.declared.tree.Network.{Network}
use Rattle.filter_tree.specs.declared.tree.Network.TheVariants as networks
use Rattle.filter_tree.specs.declared.tree.Plain.{Plain}
use Rattle.filter_tree.specs.declared.tree.Plain.TheVariants as words
use Rattle.filter_tree.specs.declared.tree.Primitive.{Primitive}
use Rattle.filter_tree.specs.declared.tree.Primitive.TheVariants.{Protocol, Net, EtherHost, Ports, IpProto, EtherProto, EtherBroadcast, EtherMulticast, IpMulticast, Less, Greater}
use Rattle.filtergen_facts.specs.declared.packet_facts.PacketFacts.{PacketFacts}
use Rattle.filtergen_facts.specs.declared.packet_facts.PacketFacts.TheVariants as known
use Rattle.filter_meaning.specs.Meaning.{protocol_number}

-- the type field is known to be this
abbrev pub has_type : PacketFacts → ℕ → Bool
has_type known.Nothing n = false
has_type (known.Type m) n = n == m
has_type (known.Protocol m) n = n == ETHERTYPE_IP
has_type (known.FirstFragment m) n = n == ETHERTYPE_IP

-- IPv4 with this protocol number
abbrev pub has_protocol : PacketFacts → ℕ → Bool
has_protocol known.Nothing n = false
has_protocol (known.Type m) n = false
has_protocol (known.Protocol m) n = n == m
has_protocol (known.FirstFragment m) n = n == m

-- and no later fragment
abbrev pub has_first_fragment : PacketFacts → ℕ → Bool
has_first_fragment known.Nothing n = false
has_first_fragment (known.Type m) n = false
has_first_fragment (known.Protocol m) n = false
has_first_fragment (known.FirstFragment m) n = n == m

abbrev pub implies : PacketFacts → PacketFacts → Bool
implies k known.Nothing = true
implies k (known.Type n) = has_type k n
implies k (known.Protocol n) = has_protocol k n
implies k (known.FirstFragment n) = has_first_fragment k n

-- what is known after one more test
abbrev pub with_fact : PacketFacts → PacketFacts → PacketFacts
with_fact k fact = if implies k fact then k else fact

-- what an accessor's layer shows
abbrev pub of_layer : Layer → PacketFacts
of_layer layers.Ether = known.Nothing
of_layer layers.Ip = known.Type ETHERTYPE_IP
of_layer layers.Arp = known.Type ETHERTYPE_ARP
of_layer layers.Rarp = known.Type ETHERTYPE_REVARP
of_layer layers.Tcp = known.FirstFragment IPPROTO_TCP
of_layer layers.Udp = known.FirstFragment IPPROTO_UDP
of_layer layers.Icmp = known.FirstFragment IPPROTO_ICMP

-- the layer of a value's first accessor is IPv4, or a protocol in it
abbrev pub begins_with_ip : Amount → Bool
begins_with_ip (trees.number n) = false
begins_with_ip trees.wire_length = false
begins_with_ip (trees.minus v) = begins_with_ip v
begins_with_ip (trees.binary o v w) = begins_with_ip v
begins_with_ip (trees.accessor layer v size) = has_type (of_layer layer) ETHERTYPE_IP

-- what is known after the tests for the layers of a value
abbrev pub after_layers : PacketFacts → Amount → PacketFacts
after_layers k (trees.number n) = k
after_layers k trees.wire_length = k
after_layers k (trees.minus v) = after_layers k v
after_layers k (trees.binary o v w) = after_layers (after_layers k v) w
after_layers k (trees.accessor layer v size) = after_layers (with_fact k (of_layer layer)) v

-- what a primitive shows where it is passed
abbrev pub of_plain : Plain → PacketFacts
of_plain words.Ip = known.Type ETHERTYPE_IP
of_plain words.Arp = known.Type ETHERTYPE_ARP
of_plain words.Rarp = known.Type ETHERTYPE_REVARP
of_plain words.Icmp = known.Protocol IPPROTO_ICMP
of_plain words.Tcp = known.Protocol IPPROTO_TCP
of_plain words.Udp = known.Protocol IPPROTO_UDP
of_plain words.Sctp = known.Protocol IPPROTO_SCTP

abbrev pub of_network : Network → PacketFacts
of_network networks.Ip = known.Type ETHERTYPE_IP
of_network networks.Arp = known.Type ETHERTYPE_ARP
of_network networks.Rarp = known.Type ETHERTYPE_REVARP

abbrev pub of_primitive : Primitive → PacketFacts
of_primitive (Protocol word) = of_plain word
of_primitive (Net (Some network) direction address mask) = of_network network
of_primitive (Net None direction address mask) = known.Nothing
of_primitive (EtherHost direction address) = known.Nothing
of_primitive (Ports (Some transport) direction low high) = known.FirstFragment (protocol_number transport)
of_primitive (Ports None direction low high) = known.Nothing
of_primitive (IpProto n) = known.Protocol n
of_primitive (EtherProto n) = known.Type n
of_primitive EtherBroadcast = known.Nothing
of_primitive EtherMulticast = known.Nothing
of_primitive IpMulticast = known.Type ETHERTYPE_IP
of_primitive (Less n) = known.Nothing
of_primitive (Greater n) = known.Nothing

-- What is known if an expression is Yes, from its operands that are at most this many levels of `and` deep: deeper ones are
-- not asked.
abbrev pub after_expr : ℕ → PacketFacts → Tree → PacketFacts
after_expr levels k trees.everything = k
after_expr levels k (trees.test primitive) = with_fact k (of_primitive primitive)
after_expr levels k (trees.relation c v w) = after_layers (after_layers k v) w
after_expr levels k (trees.negation t) = k
after_expr levels k (trees.both t u) = if levels == 0 then k else after_expr (levels - 1) (after_expr (levels - 1) k t) u
after_expr levels k (trees.either t u) = k

-- how deep operands are asked
abbrev pub LOOK_BACK : ℕ
LOOK_BACK = 16
