-- The tokens of a canonical text, before those that follow it.
use Rattle.std.proofs.Common.{ℕ, Bool, true, false, List, ◌∷◌, Option, Some, None, ◌==◌}
use Rattle.std.specs.Prelude.{if◌then◌else◌}
use Rattle.std.specs.Int.{w32, leading_ones}
use Rattle.filterlang.specs.declared.token.Kind.{Kind}
use Rattle.filterlang.specs.declared.token.Kind.TheVariants as kind
use Rattle.filterlang.specs.declared.token.Protocol.{Protocol}
use Rattle.filterlang.specs.declared.token.Protocol.TheVariants as protocols
use Rattle.filterlang.specs.declared.token.TypeWord.TheVariants as types
use Rattle.filterlang.specs.declared.token.Side.TheVariants as side
use Rattle.filterlang.specs.declared.token.Parts.TheVariants.{Four}
use Rattle.filterlang.specs.declared.token.Joint.TheVariants.{And, Or}
use Rattle.filter_tree.specs.declared.tree.Operator.TheVariants.{Minus, Divide}
use Rattle.filter_tree.specs.declared.tree.Direction.{Direction}
use Rattle.filter_tree.specs.declared.tree.Direction.TheVariants.{Dst, Src, SrcAndDst, SrcOrDst}
use Rattle.filter_tree.specs.declared.tree.Layer.{Layer}
use Rattle.filter_tree.specs.declared.tree.Layer.TheVariants as layers
use Rattle.filter_tree.specs.declared.tree.Network.{Network}
use Rattle.filter_tree.specs.declared.tree.Network.TheVariants as networks
use Rattle.filter_tree.specs.declared.tree.Plain.{Plain}
use Rattle.filter_tree.specs.declared.tree.Plain.TheVariants as plain
use Rattle.filter_tree.specs.declared.tree.Primitive.{Primitive}
use Rattle.filter_tree.specs.declared.tree.Primitive.TheVariants as primitives
use Rattle.filter_tree.specs.declared.tree.Size.{Size}
use Rattle.filter_tree.specs.declared.tree.Size.TheVariants as sizes
use Rattle.filter_tree.specs.declared.tree.Transport.{Transport}
use Rattle.filter_tree.specs.declared.tree.Transport.TheVariants as transports
use Rattle.filter_tree.specs.Trees.{Amount, number, wire_length, minus, binary, accessor, Tree, everything, test, relation, negation, both, either}
use Rattle.filterlang.specs.Qualifiers.{mask_of}
use Rattle.filter_print.specs.Parentheses.{is_binary, left_enclosed, right_enclosed, side_enclosed, is_joined, first_enclosed, negated_enclosed}

-- what a function takes
abbrev pub Domain : {A B : Type 0} → (A → B) → Type 0
Domain {A} f = A

-- all parentheses, or those that are needed
abbrev pub Parentheses : Type 0
Parentheses = Domain left_enclosed

-- this many tokens before those that follow
abbrev pub Before : Type 0
Before = List Kind → List Kind

-- the word of a primitive that is one word
abbrev pub plain_word : Plain → Protocol
plain_word plain.Ip = protocols.Ip
plain_word plain.Arp = protocols.Arp
plain_word plain.Rarp = protocols.Rarp
plain_word plain.Tcp = protocols.Tcp
plain_word plain.Udp = protocols.Udp
plain_word plain.Icmp = protocols.Icmp
plain_word plain.Sctp = protocols.Sctp

-- the qualifiers of nets
abbrev pub network_tokens : Option Network → Before
network_tokens None ks = ks
network_tokens (Some networks.Ip) ks = kind.Protocol protocols.Ip ∷ ks
network_tokens (Some networks.Arp) ks = kind.Protocol protocols.Arp ∷ ks
network_tokens (Some networks.Rarp) ks = kind.Protocol protocols.Rarp ∷ ks

-- and of ports
abbrev pub transport_tokens : Option Transport → Before
transport_tokens None ks = ks
transport_tokens (Some transports.Tcp) ks = kind.Protocol protocols.Tcp ∷ ks
transport_tokens (Some transports.Udp) ks = kind.Protocol protocols.Udp ∷ ks
transport_tokens (Some transports.Sctp) ks = kind.Protocol protocols.Sctp ∷ ks

-- a direction
abbrev pub direction_tokens : Direction → Before
direction_tokens Src ks = kind.Side side.Src ∷ ks
direction_tokens Dst ks = kind.Side side.Dst ∷ ks
direction_tokens SrcOrDst ks = ks
direction_tokens SrcAndDst ks = kind.Side side.Src ∷ kind.Joint And ∷ kind.Side side.Dst ∷ ks

-- a mask
abbrev pub mask_tokens : ℕ → Before
mask_tokens mask ks =
    if mask_of (leading_ones w32 mask) == mask then kind.Operator Divide ∷ kind.Number (leading_ones w32 mask) ∷ ks
    else kind.Mask ∷ kind.Dotted mask Four ∷ ks

-- a host or a net
abbrev pub net_tokens : ℕ → ℕ → Before
net_tokens address mask ks =
    if mask == 4294967295 then kind.Type types.Host ∷ kind.Dotted address Four ∷ ks
    else kind.Type types.Net ∷ kind.Dotted address Four ∷ mask_tokens mask ks

-- a port or a range
abbrev pub ports_tokens : ℕ → ℕ → Before
ports_tokens low high ks =
    if low == high then kind.Type types.Port ∷ kind.Number low ∷ ks
    else kind.PortRange ∷ kind.Number low ∷ kind.Operator Minus ∷ kind.Number high ∷ ks

-- a primitive
abbrev pub primitive_tokens : Primitive → Before
primitive_tokens (primitives.Protocol p) ks = kind.Protocol (plain_word p) ∷ ks
primitive_tokens (primitives.Net network direction address mask) ks = network_tokens network (direction_tokens direction (net_tokens address mask ks))
primitive_tokens (primitives.EtherHost direction address) ks = kind.Protocol protocols.Ether ∷ direction_tokens direction (kind.Type types.Host ∷ kind.Ethernet address ∷ ks)
primitive_tokens (primitives.Ports transport direction low high) ks = transport_tokens transport (direction_tokens direction (ports_tokens low high ks))
primitive_tokens (primitives.IpProto n) ks = kind.Protocol protocols.Ip ∷ kind.Type types.Proto ∷ kind.Number n ∷ ks
primitive_tokens (primitives.EtherProto n) ks = kind.Protocol protocols.Ether ∷ kind.Type types.Proto ∷ kind.Number n ∷ ks
primitive_tokens primitives.EtherBroadcast ks = kind.Protocol protocols.Ether ∷ kind.Broadcast ∷ ks
primitive_tokens primitives.EtherMulticast ks = kind.Protocol protocols.Ether ∷ kind.Multicast ∷ ks
primitive_tokens primitives.IpMulticast ks = kind.Protocol protocols.Ip ∷ kind.Multicast ∷ ks
primitive_tokens (primitives.Less n) ks = kind.Less ∷ kind.Number n ∷ ks
primitive_tokens (primitives.Greater n) ks = kind.Greater ∷ kind.Number n ∷ ks

-- within parentheses, or without
abbrev pub within : Bool → Before → Before
within true inner ks = kind.Open ∷ inner (kind.Close ∷ ks)
within false inner ks = inner ks

-- the word of a layer
abbrev pub layer_word : Layer → Protocol
layer_word layers.Ether = protocols.Ether
layer_word layers.Ip = protocols.Ip
layer_word layers.Arp = protocols.Arp
layer_word layers.Rarp = protocols.Rarp
layer_word layers.Tcp = protocols.Tcp
layer_word layers.Udp = protocols.Udp
layer_word layers.Icmp = protocols.Icmp

-- a size and its bracket
abbrev pub size_tokens : Size → Before
size_tokens sizes.One ks = kind.CloseBracket ∷ ks
size_tokens sizes.Two ks = kind.Colon ∷ kind.Number 2 ∷ kind.CloseBracket ∷ ks
size_tokens sizes.Four ks = kind.Colon ∷ kind.Number 4 ∷ kind.CloseBracket ∷ ks

-- a value
abbrev pub value_tokens : Parentheses → Amount → Before
value_tokens chosen (number n) ks = kind.Number n ∷ ks
value_tokens chosen wire_length ks = kind.Len ∷ ks
value_tokens chosen (minus v) ks = kind.Operator Minus ∷ within (is_binary v) (value_tokens chosen v) ks
value_tokens chosen (binary op v w) ks =
    within (left_enclosed chosen op v) (value_tokens chosen v) (kind.Operator op ∷ within (right_enclosed chosen op w) (value_tokens chosen w) ks)
value_tokens chosen (accessor layer v size) ks = kind.Protocol (layer_word layer) ∷ kind.OpenBracket ∷ value_tokens chosen v (size_tokens size ks)

-- a tree
abbrev pub tree_tokens : Parentheses → Tree → Before
tree_tokens chosen everything ks = ks
tree_tokens chosen (test p) ks = primitive_tokens p ks
tree_tokens chosen (relation c v w) ks =
    within (side_enclosed chosen v) (value_tokens chosen v) (kind.Comparison c ∷ within (side_enclosed chosen w) (value_tokens chosen w) ks)
tree_tokens chosen (negation t) ks = kind.Not ∷ within (negated_enclosed chosen t) (tree_tokens chosen t) ks
tree_tokens chosen (both t u) ks =
    within (first_enclosed chosen And t) (tree_tokens chosen t) (kind.Joint And ∷ within (is_joined u) (tree_tokens chosen u) ks)
tree_tokens chosen (either t u) ks =
    within (first_enclosed chosen Or t) (tree_tokens chosen t) (kind.Joint Or ∷ within (is_joined u) (tree_tokens chosen u) ks)
