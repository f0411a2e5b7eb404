-- No primitive begins a relation, and none has parentheses.
use Rattle.std.proofs.Common.{◌≡◌, ℕ, false, List, ◌∷◌, Option, Some, None, refl, ◌∙◌, ◌==◌}
use Rattle.std.specs.Int.{w32, leading_ones}
use Rattle.filterlang.specs.declared.token.Kind.{Kind}
use Rattle.filterlang.specs.declared.token.Kind.TheVariants as kind
use Rattle.filterlang.specs.declared.token.TypeWord.TheVariants as types
use Rattle.filterlang.specs.declared.token.Parts.TheVariants.{Four}
use Rattle.filter_tree.specs.declared.tree.Operator.TheVariants.{Minus, Divide}
use Rattle.filter_tree.specs.declared.tree.Direction.{Direction}
use Rattle.filter_tree.specs.declared.tree.Direction.TheVariants.{Dst, Src, SrcAndDst, SrcOrDst}
use Rattle.filter_tree.specs.declared.tree.Network.{Network}
use Rattle.filter_tree.specs.declared.tree.Network.TheVariants as networks
use Rattle.filter_tree.specs.declared.tree.Primitive.{Primitive}
use Rattle.filter_tree.specs.declared.tree.Primitive.TheVariants as primitives
use Rattle.filter_tree.specs.declared.tree.Transport.{Transport}
use Rattle.filter_tree.specs.declared.tree.Transport.TheVariants as transports
use Rattle.filterlang.specs.Qualifiers.{mask_of}
use Rattle.filterlang.specs.Grammar.{begins_relation, bracket_follows, after_matching, operator_follows, Prim}
use Rattle.filter_print_laws.proofs.Sequences.{network_tokens, transport_tokens, direction_tokens, mask_tokens, net_tokens, ports_tokens, primitive_tokens}
use Rattle.filter_print_laws.proofs.Terms.{Stops, stops_end, stops_close, stops_joint, either_of}

-- no primitive begins a relation, whatever its two forms
net_apart : (address mask : ℕ) (ks : List Kind) → begins_relation (net_tokens address mask ks) ≡ false
net_apart address mask ks = either_of (λ ts. begins_relation ts ≡ false) (mask == 4294967295) (kind.Type types.Host ∷ kind.Dotted address Four ∷ ks) (kind.Type types.Net ∷ kind.Dotted address Four ∷ mask_tokens mask ks) (λ e. refl) (λ e. refl)

-- nor does it begin with a bracket
net_no_bracket : (address mask : ℕ) (ks : List Kind) → bracket_follows (net_tokens address mask ks) ≡ false
net_no_bracket address mask ks = either_of (λ ts. bracket_follows ts ≡ false) (mask == 4294967295) (kind.Type types.Host ∷ kind.Dotted address Four ∷ ks) (kind.Type types.Net ∷ kind.Dotted address Four ∷ mask_tokens mask ks) (λ e. refl) (λ e. refl)

-- the same of ports
ports_apart : (low high : ℕ) (ks : List Kind) → begins_relation (ports_tokens low high ks) ≡ false
ports_apart low high ks = either_of (λ ts. begins_relation ts ≡ false) (low == high) (kind.Type types.Port ∷ kind.Number low ∷ ks) (kind.PortRange ∷ kind.Number low ∷ kind.Operator Minus ∷ kind.Number high ∷ ks) (λ e. refl) (λ e. refl)

-- nor do these begin with a bracket
ports_no_bracket : (low high : ℕ) (ks : List Kind) → bracket_follows (ports_tokens low high ks) ≡ false
ports_no_bracket low high ks = either_of (λ ts. bracket_follows ts ≡ false) (low == high) (kind.Type types.Port ∷ kind.Number low ∷ ks) (kind.PortRange ∷ kind.Number low ∷ kind.Operator Minus ∷ kind.Number high ∷ ks) (λ e. refl) (λ e. refl)

-- a direction is no bracket, and begins no relation
direction_apart : (direction : Direction) (ts : List Kind) → begins_relation ts ≡ false → begins_relation (direction_tokens direction ts) ≡ false
direction_apart Src ts h = refl
direction_apart Dst ts h = refl
direction_apart SrcOrDst ts h = h
direction_apart SrcAndDst ts h = refl

-- nor is one a bracket
direction_no_bracket : (direction : Direction) (ts : List Kind) → bracket_follows ts ≡ false → bracket_follows (direction_tokens direction ts) ≡ false
direction_no_bracket Src ts h = refl
direction_no_bracket Dst ts h = refl
direction_no_bracket SrcOrDst ts h = h
direction_no_bracket SrcAndDst ts h = refl

-- nor does a protocol before them begin a relation
network_apart : (network : Option Network) (ts : List Kind) → begins_relation ts ≡ false → bracket_follows ts ≡ false → begins_relation (network_tokens network ts) ≡ false
network_apart None ts h k = h
network_apart (Some networks.Ip) ts h k = k
network_apart (Some networks.Arp) ts h k = k
network_apart (Some networks.Rarp) ts h k = k

-- of nets and of ports
transport_apart : (transport : Option Transport) (ts : List Kind) → begins_relation ts ≡ false → bracket_follows ts ≡ false → begins_relation (transport_tokens transport ts) ≡ false
transport_apart None ts h k = h
transport_apart (Some transports.Tcp) ts h k = k
transport_apart (Some transports.Udp) ts h k = k
transport_apart (Some transports.Sctp) ts h k = k

-- what comes after a term is no bracket
stops_no_bracket : (ks : List Kind) → Stops ks → bracket_follows ks ≡ false
stops_no_bracket ks stops_end = refl
stops_no_bracket ks stops_close = refl
stops_no_bracket ks stops_joint = refl

-- and no sign of arithmetic
pub stops_no_operator : (ks : List Kind) → Stops ks → operator_follows ks ≡ false
stops_no_operator ks stops_end = refl
stops_no_operator ks stops_close = refl
stops_no_operator ks stops_joint = refl

-- so no primitive begins a relation
pub primitive_apart : (p : Primitive) (ks : List Kind) → Stops ks → begins_relation (primitive_tokens p ks) ≡ false
primitive_apart (primitives.Protocol p) ks s = stops_no_bracket ks s
primitive_apart (primitives.Net network direction address mask) ks s =
    network_apart network (direction_tokens direction (net_tokens address mask ks)) (direction_apart direction (net_tokens address mask ks) (net_apart address mask ks)) (direction_no_bracket direction (net_tokens address mask ks) (net_no_bracket address mask ks))
primitive_apart (primitives.EtherHost direction address) ks s = direction_no_bracket direction (kind.Type types.Host ∷ kind.Ethernet address ∷ ks) refl
primitive_apart (primitives.Ports transport direction low high) ks s =
    transport_apart transport (direction_tokens direction (ports_tokens low high ks)) (direction_apart direction (ports_tokens low high ks) (ports_apart low high ks)) (direction_no_bracket direction (ports_tokens low high ks) (ports_no_bracket low high ks))
primitive_apart (primitives.IpProto n) ks s = refl
primitive_apart (primitives.EtherProto n) ks s = refl
primitive_apart primitives.EtherBroadcast ks s = refl
primitive_apart primitives.EtherMulticast ks s = refl
primitive_apart primitives.IpMulticast ks s = refl
primitive_apart (primitives.Less n) ks s = refl
primitive_apart (primitives.Greater n) ks s = refl

-- a primitive has no parentheses
net_matched : (d address mask : ℕ) (ks : List Kind) → after_matching d (net_tokens address mask ks) ≡ after_matching d ks
net_matched d address mask ks = either_of (λ ts. after_matching d ts ≡ after_matching d ks) (mask == 4294967295) (kind.Type types.Host ∷ kind.Dotted address Four ∷ ks) (kind.Type types.Net ∷ kind.Dotted address Four ∷ mask_tokens mask ks) (λ e. refl)
    (λ e. either_of (λ ts. after_matching d ts ≡ after_matching d ks) (mask_of (leading_ones w32 mask) == mask) (kind.Operator Divide ∷ kind.Number (leading_ones w32 mask) ∷ ks) (kind.Mask ∷ kind.Dotted mask Four ∷ ks) (λ e. refl) (λ e. refl))

-- nor have ports
ports_matched : (d low high : ℕ) (ks : List Kind) → after_matching d (ports_tokens low high ks) ≡ after_matching d ks
ports_matched d low high ks = either_of (λ ts. after_matching d ts ≡ after_matching d ks) (low == high) (kind.Type types.Port ∷ kind.Number low ∷ ks) (kind.PortRange ∷ kind.Number low ∷ kind.Operator Minus ∷ kind.Number high ∷ ks) (λ e. refl) (λ e. refl)

-- nor a direction
direction_matched : (d : ℕ) (direction : Direction) (ks : List Kind) → after_matching d (direction_tokens direction ks) ≡ after_matching d ks
direction_matched d Src ks = refl
direction_matched d Dst ks = refl
direction_matched d SrcOrDst ks = refl
direction_matched d SrcAndDst ks = refl

-- nor a protocol of nets
network_matched : (d : ℕ) (network : Option Network) (ks : List Kind) → after_matching d (network_tokens network ks) ≡ after_matching d ks
network_matched d None ks = refl
network_matched d (Some networks.Ip) ks = refl
network_matched d (Some networks.Arp) ks = refl
network_matched d (Some networks.Rarp) ks = refl

-- nor one of ports
transport_matched : (d : ℕ) (transport : Option Transport) (ks : List Kind) → after_matching d (transport_tokens transport ks) ≡ after_matching d ks
transport_matched d None ks = refl
transport_matched d (Some transports.Tcp) ks = refl
transport_matched d (Some transports.Udp) ks = refl
transport_matched d (Some transports.Sctp) ks = refl

-- so none has
pub primitive_matched : (p : Primitive) (d : ℕ) (ks : List Kind) → after_matching d (primitive_tokens p ks) ≡ after_matching d ks
primitive_matched (primitives.Protocol p) d ks = refl
primitive_matched (primitives.Net network direction address mask) d ks =
    network_matched d network (direction_tokens direction (net_tokens address mask ks)) ∙ direction_matched d direction (net_tokens address mask ks) ∙ net_matched d address mask ks
primitive_matched (primitives.EtherHost direction address) d ks = direction_matched d direction (kind.Type types.Host ∷ kind.Ethernet address ∷ ks)
primitive_matched (primitives.Ports transport direction low high) d ks =
    transport_matched d transport (direction_tokens direction (ports_tokens low high ks)) ∙ direction_matched d direction (ports_tokens low high ks) ∙ ports_matched d low high ks
primitive_matched (primitives.IpProto n) d ks = refl
primitive_matched (primitives.EtherProto n) d ks = refl
primitive_matched primitives.EtherBroadcast d ks = refl
primitive_matched primitives.EtherMulticast d ks = refl
primitive_matched primitives.IpMulticast d ks = refl
primitive_matched (primitives.Less n) d ks = refl
primitive_matched (primitives.Greater n) d ks = refl
