-- The words of a primitive's canonical text are spelled as its tokens.
use Rattle.std.proofs.Common.{◌≡◌, ℕ, ◌<◌, ◌≤◌, Bool, true, false, List, ◌∷◌, ◌++◌, Option, Some, None, refl, sym, ◌∙◌, subst, arith, append_assoc, ◌==◌}
use Rattle.std.specs.Prelude.{◌^◌, codes, if◌then◌else◌}
use Rattle.std.specs.Fmt.{decimal}
use Rattle.std.specs.Int.{w32, leading_ones, bit_not}
use Rattle.std.proofs.lemmas.Nat.{leading_le}
use Rattle.filterlang.specs.declared.token.Kind.{Kind}
use Rattle.filterlang.specs.declared.token.Kind.TheVariants as kind
use Rattle.filterlang.specs.declared.token.Protocol.TheVariants as protocols
use Rattle.filterlang.specs.declared.token.TypeWord.TheVariants as types
use Rattle.filterlang.specs.declared.token.Side.TheVariants as side
use Rattle.filterlang.specs.declared.token.Parts.TheVariants.{Four}
use Rattle.filterlang.specs.declared.token.Joint.TheVariants.{And}
use Rattle.filter_tree.specs.declared.tree.Operator.TheVariants.{Minus, Divide}
use Rattle.filter_tree.specs.declared.tree.Direction.{Direction}
use Rattle.filter_tree.specs.declared.tree.Direction.TheVariants.{Dst, Src, SrcAndDst, SrcOrDst}
use Rattle.filter_tree.specs.declared.tree.Network.{Network}
use Rattle.filter_tree.specs.declared.tree.Network.TheVariants as networks
use Rattle.filter_tree.specs.declared.tree.Plain.{Plain}
use Rattle.filter_tree.specs.declared.tree.Plain.TheVariants as plain
use Rattle.filter_tree.specs.declared.tree.Primitive.{Primitive}
use Rattle.filter_tree.specs.declared.tree.Primitive.TheVariants as primitives
use Rattle.filter_tree.specs.declared.tree.Transport.{Transport}
use Rattle.filter_tree.specs.declared.tree.Transport.TheVariants as transports
use Rattle.filterlang.specs.Qualifiers.{mask_of}
use Rattle.filterlang.specs.Words.{words, names, signs}
use Rattle.filterlang.specs.Numbers.{number_or_dotted_at, ethernet_at}
use Rattle.filterlang.specs.Tokens.{token_at, front}
use Rattle.filter_print.specs.Primitives.{plain_text, network_text, transport_text, direction_text, address_text, ethernet_text, mask_text, net_text, ports_text, primitive_text}
use Rattle.filter_print_laws.proofs.Runs.{follows_blank, follows_minus, follows_slash}
use Rattle.filter_print_laws.proofs.Spelled.{Spelled, spelled_blank, spelled_token}
use Rattle.filter_print_laws.proofs.Numbers.{number_spelled, address_spelled}
use Rattle.filter_print_laws.proofs.Ethernet.{ethernet_spelled}
use Rattle.filter_print_laws.proofs.Sequences.{plain_word, network_tokens, transport_tokens, direction_tokens, mask_tokens, net_tokens, ports_tokens, primitive_tokens}
use Rattle.filter_print_laws.proofs.Terms.{IsPrimitive}
use Rattle.filter_print_laws.proofs.Endings.{Ends, ends_end, ends_blank, ends_close, ends_follow, Spells}

-- a word and the space after it
ip_word : (rest : List ℕ) (ks : List Kind) → Spelled rest ks → Spelled (codes "ip " ++ rest) (kind.Protocol protocols.Ip ∷ ks)
unfolding front token_at ethernet_at number_or_dotted_at words names signs
ip_word rest ks s = spelled_token {n = 2} refl (spelled_blank s)

arp_word : (rest : List ℕ) (ks : List Kind) → Spelled rest ks → Spelled (codes "arp " ++ rest) (kind.Protocol protocols.Arp ∷ ks)
unfolding front token_at ethernet_at number_or_dotted_at words names signs
arp_word rest ks s = spelled_token {n = 3} refl (spelled_blank s)

rarp_word : (rest : List ℕ) (ks : List Kind) → Spelled rest ks → Spelled (codes "rarp " ++ rest) (kind.Protocol protocols.Rarp ∷ ks)
unfolding front token_at ethernet_at number_or_dotted_at words names signs
rarp_word rest ks s = spelled_token {n = 4} refl (spelled_blank s)

tcp_word : (rest : List ℕ) (ks : List Kind) → Spelled rest ks → Spelled (codes "tcp " ++ rest) (kind.Protocol protocols.Tcp ∷ ks)
unfolding front token_at ethernet_at number_or_dotted_at words names signs
tcp_word rest ks s = spelled_token {n = 3} refl (spelled_blank s)

udp_word : (rest : List ℕ) (ks : List Kind) → Spelled rest ks → Spelled (codes "udp " ++ rest) (kind.Protocol protocols.Udp ∷ ks)
unfolding front token_at ethernet_at number_or_dotted_at words names signs
udp_word rest ks s = spelled_token {n = 3} refl (spelled_blank s)

sctp_word : (rest : List ℕ) (ks : List Kind) → Spelled rest ks → Spelled (codes "sctp " ++ rest) (kind.Protocol protocols.Sctp ∷ ks)
unfolding front token_at ethernet_at number_or_dotted_at words names signs
sctp_word rest ks s = spelled_token {n = 4} refl (spelled_blank s)

ether_word : (rest : List ℕ) (ks : List Kind) → Spelled rest ks → Spelled (codes "ether " ++ rest) (kind.Protocol protocols.Ether ∷ ks)
unfolding front token_at ethernet_at number_or_dotted_at words names signs
ether_word rest ks s = spelled_token {n = 5} refl (spelled_blank s)

src_word : (rest : List ℕ) (ks : List Kind) → Spelled rest ks → Spelled (codes "src " ++ rest) (kind.Side side.Src ∷ ks)
unfolding front token_at ethernet_at number_or_dotted_at words names signs
src_word rest ks s = spelled_token {n = 3} refl (spelled_blank s)

dst_word : (rest : List ℕ) (ks : List Kind) → Spelled rest ks → Spelled (codes "dst " ++ rest) (kind.Side side.Dst ∷ ks)
unfolding front token_at ethernet_at number_or_dotted_at words names signs
dst_word rest ks s = spelled_token {n = 3} refl (spelled_blank s)

and_word : (rest : List ℕ) (ks : List Kind) → Spelled rest ks → Spelled (codes "and " ++ rest) (kind.Joint And ∷ ks)
unfolding front token_at ethernet_at number_or_dotted_at words names signs
and_word rest ks s = spelled_token {n = 3} refl (spelled_blank s)

host_word : (rest : List ℕ) (ks : List Kind) → Spelled rest ks → Spelled (codes "host " ++ rest) (kind.Type types.Host ∷ ks)
unfolding front token_at ethernet_at number_or_dotted_at words names signs
host_word rest ks s = spelled_token {n = 4} refl (spelled_blank s)

net_word : (rest : List ℕ) (ks : List Kind) → Spelled rest ks → Spelled (codes "net " ++ rest) (kind.Type types.Net ∷ ks)
unfolding front token_at ethernet_at number_or_dotted_at words names signs
net_word rest ks s = spelled_token {n = 3} refl (spelled_blank s)

port_word : (rest : List ℕ) (ks : List Kind) → Spelled rest ks → Spelled (codes "port " ++ rest) (kind.Type types.Port ∷ ks)
unfolding front token_at ethernet_at number_or_dotted_at words names signs
port_word rest ks s = spelled_token {n = 4} refl (spelled_blank s)

range_word : (rest : List ℕ) (ks : List Kind) → Spelled rest ks → Spelled (codes "portrange " ++ rest) (kind.PortRange ∷ ks)
unfolding front token_at ethernet_at number_or_dotted_at words names signs
range_word rest ks s = spelled_token {n = 9} refl (spelled_blank s)

proto_word : (rest : List ℕ) (ks : List Kind) → Spelled rest ks → Spelled (codes "proto " ++ rest) (kind.Type types.Proto ∷ ks)
unfolding front token_at ethernet_at number_or_dotted_at words names signs
proto_word rest ks s = spelled_token {n = 5} refl (spelled_blank s)

mask_word : (rest : List ℕ) (ks : List Kind) → Spelled rest ks → Spelled (codes "mask " ++ rest) (kind.Mask ∷ ks)
unfolding front token_at ethernet_at number_or_dotted_at words names signs
mask_word rest ks s = spelled_token {n = 4} refl (spelled_blank s)

less_word : (rest : List ℕ) (ks : List Kind) → Spelled rest ks → Spelled (codes "less " ++ rest) (kind.Less ∷ ks)
unfolding front token_at ethernet_at number_or_dotted_at words names signs
less_word rest ks s = spelled_token {n = 4} refl (spelled_blank s)

greater_word : (rest : List ℕ) (ks : List Kind) → Spelled rest ks → Spelled (codes "greater " ++ rest) (kind.Greater ∷ ks)
unfolding front token_at ethernet_at number_or_dotted_at words names signs
greater_word rest ks s = spelled_token {n = 7} refl (spelled_blank s)

-- a word that may end a text
last_ip : Spells (codes "ip") (λ ks. kind.Protocol protocols.Ip ∷ ks) Ends
unfolding front token_at ethernet_at number_or_dotted_at words names signs
last_ip rest ks ends_end s = spelled_token {n = 2} refl s
last_ip rest ks ends_blank s = spelled_token {n = 2} refl s
last_ip rest ks ends_close s = spelled_token {n = 2} refl s

last_arp : Spells (codes "arp") (λ ks. kind.Protocol protocols.Arp ∷ ks) Ends
unfolding front token_at ethernet_at number_or_dotted_at words names signs
last_arp rest ks ends_end s = spelled_token {n = 3} refl s
last_arp rest ks ends_blank s = spelled_token {n = 3} refl s
last_arp rest ks ends_close s = spelled_token {n = 3} refl s

last_rarp : Spells (codes "rarp") (λ ks. kind.Protocol protocols.Rarp ∷ ks) Ends
unfolding front token_at ethernet_at number_or_dotted_at words names signs
last_rarp rest ks ends_end s = spelled_token {n = 4} refl s
last_rarp rest ks ends_blank s = spelled_token {n = 4} refl s
last_rarp rest ks ends_close s = spelled_token {n = 4} refl s

last_tcp : Spells (codes "tcp") (λ ks. kind.Protocol protocols.Tcp ∷ ks) Ends
unfolding front token_at ethernet_at number_or_dotted_at words names signs
last_tcp rest ks ends_end s = spelled_token {n = 3} refl s
last_tcp rest ks ends_blank s = spelled_token {n = 3} refl s
last_tcp rest ks ends_close s = spelled_token {n = 3} refl s

last_udp : Spells (codes "udp") (λ ks. kind.Protocol protocols.Udp ∷ ks) Ends
unfolding front token_at ethernet_at number_or_dotted_at words names signs
last_udp rest ks ends_end s = spelled_token {n = 3} refl s
last_udp rest ks ends_blank s = spelled_token {n = 3} refl s
last_udp rest ks ends_close s = spelled_token {n = 3} refl s

last_icmp : Spells (codes "icmp") (λ ks. kind.Protocol protocols.Icmp ∷ ks) Ends
unfolding front token_at ethernet_at number_or_dotted_at words names signs
last_icmp rest ks ends_end s = spelled_token {n = 4} refl s
last_icmp rest ks ends_blank s = spelled_token {n = 4} refl s
last_icmp rest ks ends_close s = spelled_token {n = 4} refl s

last_sctp : Spells (codes "sctp") (λ ks. kind.Protocol protocols.Sctp ∷ ks) Ends
unfolding front token_at ethernet_at number_or_dotted_at words names signs
last_sctp rest ks ends_end s = spelled_token {n = 4} refl s
last_sctp rest ks ends_blank s = spelled_token {n = 4} refl s
last_sctp rest ks ends_close s = spelled_token {n = 4} refl s

last_broadcast : Spells (codes "broadcast") (λ ks. kind.Broadcast ∷ ks) Ends
unfolding front token_at ethernet_at number_or_dotted_at words names signs
last_broadcast rest ks ends_end s = spelled_token {n = 9} refl s
last_broadcast rest ks ends_blank s = spelled_token {n = 9} refl s
last_broadcast rest ks ends_close s = spelled_token {n = 9} refl s

last_multicast : Spells (codes "multicast") (λ ks. kind.Multicast ∷ ks) Ends
unfolding front token_at ethernet_at number_or_dotted_at words names signs
last_multicast rest ks ends_end s = spelled_token {n = 9} refl s
last_multicast rest ks ends_blank s = spelled_token {n = 9} refl s
last_multicast rest ks ends_close s = spelled_token {n = 9} refl s

-- so a primitive that is one word
plain_spelled : (p : Plain) → Spells (plain_text p) (λ ks. kind.Protocol (plain_word p) ∷ ks) Ends
plain_spelled plain.Ip = last_ip
plain_spelled plain.Arp = last_arp
plain_spelled plain.Rarp = last_rarp
plain_spelled plain.Tcp = last_tcp
plain_spelled plain.Udp = last_udp
plain_spelled plain.Icmp = last_icmp
plain_spelled plain.Sctp = last_sctp

-- the qualifiers before a text
network_spelled : (network : Option Network) (rest : List ℕ) (ks : List Kind) → Spelled rest ks → Spelled (network_text network ++ rest) (network_tokens network ks)
network_spelled None rest ks s = s
network_spelled (Some networks.Ip) rest ks s = ip_word rest ks s
network_spelled (Some networks.Arp) rest ks s = arp_word rest ks s
network_spelled (Some networks.Rarp) rest ks s = rarp_word rest ks s

-- of ports
transport_spelled : (transport : Option Transport) (rest : List ℕ) (ks : List Kind) → Spelled rest ks → Spelled (transport_text transport ++ rest) (transport_tokens transport ks)
transport_spelled None rest ks s = s
transport_spelled (Some transports.Tcp) rest ks s = tcp_word rest ks s
transport_spelled (Some transports.Udp) rest ks s = udp_word rest ks s
transport_spelled (Some transports.Sctp) rest ks s = sctp_word rest ks s

-- a direction
direction_spelled : (direction : Direction) (rest : List ℕ) (ks : List Kind) → Spelled rest ks → Spelled (direction_text direction ++ rest) (direction_tokens direction ks)
direction_spelled Src rest ks s = src_word rest ks s
direction_spelled Dst rest ks s = dst_word rest ks s
direction_spelled SrcOrDst rest ks s = s
direction_spelled SrcAndDst rest ks s = src_word (codes "and dst " ++ rest) (kind.Joint And ∷ kind.Side side.Dst ∷ ks) (and_word (codes "dst " ++ rest) (kind.Side side.Dst ∷ ks) (dst_word rest ks s))

-- a `/` and a `-`
slash : (rest : List ℕ) (ks : List Kind) → Spelled rest ks → Spelled (47 ∷ rest) (kind.Operator Divide ∷ ks)
unfolding front token_at ethernet_at number_or_dotted_at words names signs
slash rest ks s = spelled_token {n = 1} refl s

-- a `-`
dash : (rest : List ℕ) (ks : List Kind) → Spelled rest ks → Spelled (45 ∷ rest) (kind.Operator Minus ∷ ks)
unfolding front token_at ethernet_at number_or_dotted_at words names signs
dash rest ks s = spelled_token {n = 1} refl s

-- an address and its mask
masked : (address mask : ℕ) → address < 2 ^ 32 → mask < 2 ^ 32 → (rest : List ℕ) (ks : List Kind) → Ends rest → Spelled rest ks → Spelled (address_text address ++ (mask_text mask ++ rest)) (kind.Dotted address Four ∷ mask_tokens mask ks)
unfolding mask_text
masked address mask la lm rest ks e s = by_mask (mask_of (leading_ones w32 mask) == mask)
  where
    bits : ℕ
    bits = leading_ones w32 mask

    by_mask : (b : Bool) → Spelled (address_text address ++ ((if b then codes "/" ++ decimal bits else codes " mask " ++ address_text mask) ++ rest)) (kind.Dotted address Four ∷ (if b then kind.Operator Divide ∷ kind.Number bits ∷ ks else kind.Mask ∷ kind.Dotted mask Four ∷ ks))
    by_mask true =
        let few = leading_le 32 (bit_not w32 mask) in
        address_spelled address la (47 ∷ (decimal bits ++ rest)) (kind.Operator Divide ∷ kind.Number bits ∷ ks) follows_slash
        (slash (decimal bits ++ rest) (kind.Number bits ∷ ks) (number_spelled bits (omega arith) rest ks (ends_follow e) s))
    by_mask false =
        address_spelled address la (codes " mask " ++ (address_text mask ++ rest)) (kind.Mask ∷ kind.Dotted mask Four ∷ ks) follows_blank
        (spelled_blank (mask_word (address_text mask ++ rest) (kind.Dotted mask Four ∷ ks) (address_spelled mask lm rest ks (ends_follow e) s)))

-- a host or a net
net_spelled : (address mask : ℕ) → address < 2 ^ 32 → mask < 2 ^ 32 → Spells (net_text address mask) (net_tokens address mask) Ends
unfolding net_text
net_spelled address mask la lm rest ks e s = by_mask (mask == 4294967295)
  where
    by_mask : (b : Bool) → Spelled ((if b then codes "host " ++ address_text address else codes "net " ++ address_text address ++ mask_text mask) ++ rest) (if b then kind.Type types.Host ∷ kind.Dotted address Four ∷ ks else kind.Type types.Net ∷ kind.Dotted address Four ∷ mask_tokens mask ks)
    by_mask true = host_word (address_text address ++ rest) (kind.Dotted address Four ∷ ks) (address_spelled address la rest ks (ends_follow e) s)
    by_mask false =
        net_word ((address_text address ++ mask_text mask) ++ rest) (kind.Dotted address Four ∷ mask_tokens mask ks)
        (subst (λ x. Spelled x (kind.Dotted address Four ∷ mask_tokens mask ks)) (sym (append_assoc (address_text address) (mask_text mask) rest)) (masked address mask la lm rest ks e s))

-- a port or a range of them
ports_spelled : (low high : ℕ) → low ≤ high → high < 65536 → Spells (ports_text low high) (ports_tokens low high) Ends
unfolding ports_text
ports_spelled low high order small rest ks e s = by_ports (low == high)
  where
    by_ports : (b : Bool) → Spelled ((if b then codes "port " ++ decimal low else codes "portrange " ++ decimal low ++ codes "-" ++ decimal high) ++ rest) (if b then kind.Type types.Port ∷ kind.Number low ∷ ks else kind.PortRange ∷ kind.Number low ∷ kind.Operator Minus ∷ kind.Number high ∷ ks)
    by_ports true = port_word (decimal low ++ rest) (kind.Number low ∷ ks) (number_spelled low (omega arith) rest ks (ends_follow e) s)
    by_ports false =
        range_word ((decimal low ++ codes "-" ++ decimal high) ++ rest) (kind.Number low ∷ kind.Operator Minus ∷ kind.Number high ∷ ks)
        (subst (λ x. Spelled x (kind.Number low ∷ kind.Operator Minus ∷ kind.Number high ∷ ks))
        (sym (append_assoc (decimal low ++ codes "-") (decimal high) rest ∙ append_assoc (decimal low) (codes "-") (decimal high ++ rest)))
        (number_spelled low (omega arith) (45 ∷ (decimal high ++ rest)) (kind.Operator Minus ∷ kind.Number high ∷ ks) follows_minus
        (dash (decimal high ++ rest) (kind.Number high ∷ ks) (number_spelled high (omega arith) rest ks (ends_follow e) s))))

-- a text after its qualifiers
network_behind : (network : Option Network) (direction : Direction) (text rest : List ℕ) (ks : List Kind) → Spelled (text ++ rest) ks → Spelled ((network_text network ++ direction_text direction ++ text) ++ rest) (network_tokens network (direction_tokens direction ks))
network_behind network direction text rest ks s =
    subst (λ x. Spelled x (network_tokens network (direction_tokens direction ks))) (sym (append_assoc (network_text network ++ direction_text direction) text rest ∙ append_assoc (network_text network) (direction_text direction) (text ++ rest)))
    (network_spelled network (direction_text direction ++ (text ++ rest)) (direction_tokens direction ks) (direction_spelled direction (text ++ rest) ks s))

-- the same of ports
transport_behind : (transport : Option Transport) (direction : Direction) (text rest : List ℕ) (ks : List Kind) → Spelled (text ++ rest) ks → Spelled ((transport_text transport ++ direction_text direction ++ text) ++ rest) (transport_tokens transport (direction_tokens direction ks))
transport_behind transport direction text rest ks s =
    subst (λ x. Spelled x (transport_tokens transport (direction_tokens direction ks))) (sym (append_assoc (transport_text transport ++ direction_text direction) text rest ∙ append_assoc (transport_text transport) (direction_text direction) (text ++ rest)))
    (transport_spelled transport (direction_text direction ++ (text ++ rest)) (direction_tokens direction ks) (direction_spelled direction (text ++ rest) ks s))

-- the text of an Ethernet host, from the left
ether_text_is : (direction : List ℕ) (address rest : List ℕ) → (codes "ether " ++ direction ++ codes "host " ++ address) ++ rest ≡ codes "ether " ++ (direction ++ (codes "host " ++ (address ++ rest)))
ether_text_is direction address rest =
    append_assoc (codes "ether " ++ direction ++ codes "host ") address rest ∙ append_assoc (codes "ether " ++ direction) (codes "host ") (address ++ rest) ∙ append_assoc (codes "ether ") direction (codes "host " ++ (address ++ rest))

-- each primitive is spelled as its tokens
pub primitive_spelled : (p : Primitive) → IsPrimitive p → Spells (primitive_text p) (primitive_tokens p) Ends
unfolding primitive_text
primitive_spelled (primitives.Protocol p) is rest ks e s = plain_spelled p rest ks e s
primitive_spelled (primitives.Net network direction address mask) is rest ks e s =
    network_behind network direction (net_text address mask) rest (net_tokens address mask ks) (net_spelled address mask is.0 is.1 rest ks e s)
primitive_spelled (primitives.EtherHost direction address) is rest ks e s =
    subst (λ x. Spelled x (kind.Protocol protocols.Ether ∷ direction_tokens direction (kind.Type types.Host ∷ kind.Ethernet address ∷ ks))) (sym (ether_text_is (direction_text direction) (ethernet_text address.octets) rest))
    (ether_word (direction_text direction ++ (codes "host " ++ (ethernet_text address.octets ++ rest))) (direction_tokens direction (kind.Type types.Host ∷ kind.Ethernet address ∷ ks))
    (direction_spelled direction (codes "host " ++ (ethernet_text address.octets ++ rest)) (kind.Type types.Host ∷ kind.Ethernet address ∷ ks)
    (host_word (ethernet_text address.octets ++ rest) (kind.Ethernet address ∷ ks) (ethernet_spelled address is.0 is.1 rest ks e s))))
primitive_spelled (primitives.Ports transport direction low high) is rest ks e s =
    transport_behind transport direction (ports_text low high) rest (ports_tokens low high ks) (ports_spelled low high is.0 is.1 rest ks e s)
primitive_spelled (primitives.IpProto n) is rest ks e s = ip_word (codes "proto " ++ (decimal n ++ rest)) (kind.Type types.Proto ∷ kind.Number n ∷ ks) (proto_word (decimal n ++ rest) (kind.Number n ∷ ks) (number_spelled n (omega arith) rest ks (ends_follow e) s))
primitive_spelled (primitives.EtherProto n) is rest ks e s = ether_word (codes "proto " ++ (decimal n ++ rest)) (kind.Type types.Proto ∷ kind.Number n ∷ ks) (proto_word (decimal n ++ rest) (kind.Number n ∷ ks) (number_spelled n (omega (arith, is.1)) rest ks (ends_follow e) s))
primitive_spelled primitives.EtherBroadcast is rest ks e s = ether_word (codes "broadcast" ++ rest) (kind.Broadcast ∷ ks) (last_broadcast rest ks e s)
primitive_spelled primitives.EtherMulticast is rest ks e s = ether_word (codes "multicast" ++ rest) (kind.Multicast ∷ ks) (last_multicast rest ks e s)
primitive_spelled primitives.IpMulticast is rest ks e s = ip_word (codes "multicast" ++ rest) (kind.Multicast ∷ ks) (last_multicast rest ks e s)
primitive_spelled (primitives.Less n) is rest ks e s = less_word (decimal n ++ rest) (kind.Number n ∷ ks) (number_spelled n is rest ks (ends_follow e) s)
primitive_spelled (primitives.Greater n) is rest ks e s = greater_word (decimal n ++ rest) (kind.Number n ∷ ks) (number_spelled n is rest ks (ends_follow e) s)
