-- What tokens are read as has what its canonical text needs: primitives and values within their bounds.
use Rattle.std.proofs.Common.{◌≡◌, ℕ, ◌*◌, ◌-◌, ◌<◌, ◌≤◌, true, ◌&&◌, ◌==◌, List, [], ◌∷◌, Option, Some, None, nat_le, refl, ◌∙◌, arith, leb-true}
use Rattle.std.specs.Prelude.{IfSome, option_map, if◌then◌else◌, ◌^◌, bit_and}
use Rattle.std.proofs.lemmas.Bool.{eq-eqb}
use Rattle.std.proofs.lemmas.Nat.{and_mask}
use Rattle.filterlang.specs.declared.token.Kind.{Kind}
use Rattle.filterlang.specs.declared.token.Kind.TheVariants as kind
use Rattle.filterlang.specs.declared.token.Protocol.{Protocol}
use Rattle.filterlang.specs.declared.token.Protocol.TheVariants as protocols
use Rattle.filterlang.specs.declared.token.TypeWord.{TypeWord}
use Rattle.filterlang.specs.declared.token.TypeWord.TheVariants as types
use Rattle.filterlang.specs.declared.token.Parts.{Parts}
use Rattle.filterlang.specs.declared.token.Parts.TheVariants.{Two, Three, Four}
use Rattle.filter_tree.specs.declared.tree.Operator.TheVariants.{Divide}
use Rattle.filter_tree.specs.declared.tree.EthernetAddress.{EthernetAddress}
use Rattle.filter_tree.specs.declared.tree.Direction.{Direction}
use Rattle.filter_tree.specs.declared.tree.Network.{Network}
use Rattle.filter_tree.specs.declared.tree.Transport.{Transport}
use Rattle.filter_tree.specs.declared.tree.Primitive.TheVariants as primitives
use Rattle.filterlang.specs.Phrases.{identifier_at}
use Rattle.filterlang.specs.Qualifiers.{allowed, mask_of, bits_of, net_of, between, port_of, identified}
use Rattle.filterlang.specs.Grammar.{Prim}
use Rattle.std.proofs.Common.{le_refl, ◌%◌, pow_pos}
use Rattle.std.proofs.Math.Pow.{pow-sub-lt}
use Rattle.filter_print_laws.proofs.Basics.{both_true}
use Rattle.filter_print_laws.proofs.Digits.{below_all}
use Rattle.filter_print_laws.proofs.Terms.{IsPrimitive, either_of}
use Rattle.filter_print_laws.proofs.Bounds.{IsToken, some_map}

-- a number between two others
pub between_is : (low high n : ℕ) → IfSome (between low high n) (λ m. (low ≤ m) × (m ≤ high))
between_is low high n = either_of (λ r. IfSome r (λ m. (low ≤ m) × (m ≤ high))) (nat_le low n && nat_le n high) (Some n) None (λ e. let each = both_true (nat_le low n) (nat_le n high) e in (leb-true low n each.0, leb-true n high each.1)) (λ e. tt)

-- a mask has 32 bits
pub mask_small : (bits : ℕ) → mask_of bits < 2 ^ 32
mask_small bits = pow-sub-lt 32 (pow_pos (32 - bits))

-- a net of one octet lies within its mask
octet_net : (n : ℕ) → n ≤ 255 → (bit_and (n * 2 ^ 24) (mask_of 8) == n * 2 ^ 24) ≡ true
octet_net n le = below_all (λ k. bit_and (k * 2 ^ 24) (mask_of 8) == k * 2 ^ 24) 256 refl n (omega arith)

-- a host lies within its mask
host_net : (a : ℕ) → a < 2 ^ 32 → (bit_and a (mask_of 32) == a) ≡ true
host_net a small = let whole : a % 2 ^ 32 ≡ a = omega arith in eq-eqb (bit_and a (mask_of 32)) a (and_mask a 32 ∙ whole)

-- a net whose address lies within its mask
net_is : (network : Option Network) (direction : Direction) (a mask : ℕ) → a < 2 ^ 32 → mask < 2 ^ 32 → IfSome (net_of network direction a mask) IsPrimitive
net_is network direction a mask la lm = either_of (λ r. IfSome r IsPrimitive) (bit_and a mask == a) (Some (primitives.Net network direction a mask)) None (λ e. (la, lm, e)) (λ e. tt)

-- the same, by how many bits the mask has
prefix_is : (network : Option Network) (direction : Direction) (a bits : ℕ) → a < 2 ^ 32 → IfSome (if nat_le bits 32 then net_of network direction a (mask_of bits) else None) IsPrimitive
prefix_is network direction a bits la = either_of (λ r. IfSome r IsPrimitive) (nat_le bits 32) (net_of network direction a (mask_of bits)) None (λ e. net_is network direction a (mask_of bits) la (mask_small bits)) (λ e. tt)

-- the net of a first octet
first_is : (network : Option Network) (direction : Direction) (n : ℕ) → IfSome (option_map (λ first. primitives.Net network direction (first * 2 ^ 24) (mask_of 8)) (between 0 255 n)) IsPrimitive
first_is network direction n = some_map (λ first. primitives.Net network direction (first * 2 ^ 24) (mask_of 8)) (λ m. (0 ≤ m) × (m ≤ 255)) IsPrimitive (between 0 255 n) (between_is 0 255 n) (λ m h. (shifted m h.1, mask_small 8, octet_net m h.1))
  where
    shifted : (m : ℕ) → m ≤ 255 → m * 2 ^ 24 < 2 ^ 32
    shifted m le = omega arith

-- a port
port_is : (transport : Option Transport) (direction : Direction) (n : ℕ) → IfSome (option_map (λ port. primitives.Ports transport direction port port) (port_of n)) IsPrimitive
port_is transport direction n = some_map (λ port. primitives.Ports transport direction port port) (λ m. (0 ≤ m) × (m ≤ 65535)) IsPrimitive (port_of n) (between_is 0 65535 n) (λ m h. (le_refl m, below_end m h.1))
  where
    below_end : (m : ℕ) → m ≤ 65535 → m < 65536
    below_end m le = omega arith

-- a protocol of IPv4
proto_is : (n : ℕ) → IfSome (option_map primitives.IpProto (between 0 255 n)) IsPrimitive
proto_is n = some_map primitives.IpProto (λ m. (0 ≤ m) × (m ≤ 255)) IsPrimitive (between 0 255 n) (between_is 0 255 n) (λ m h. omega (arith, h.1))

-- a type of frames
type_is : (n : ℕ) → IfSome (option_map primitives.EtherProto (between 1501 65535 n)) IsPrimitive
type_is n = some_map primitives.EtherProto (λ m. (1501 ≤ m) × (m ≤ 65535)) IsPrimitive (between 1501 65535 n) (between_is 1501 65535 n) (λ m h. (omega (arith, h.0), omega (arith, h.1)))

-- what the identifier that tokens begin with is under any qualifiers
abbrev pub Under : List Kind → TypeWord → Option Protocol → Option Direction → Direction → Type 0
Under ks word protocol written direction = IfSome (allowed word protocol written direction) (λ g. IfSome (identifier_at ks) (λ x. IfSome (identified g x.0) IsPrimitive))

-- a number
pub under_number : (n : ℕ) → (word : TypeWord) (protocol : Option Protocol) (written : Option Direction) (direction : Direction) → Under (kind.Number n ∷ []) word protocol written direction
under_number n types.Host None written direction = tt
under_number n types.Host (Some protocols.Ether) written direction = tt
under_number n types.Net None written direction = first_is _ direction n
under_number n types.Net (Some protocols.Ip) written direction = first_is _ direction n
under_number n types.Net (Some protocols.Arp) written direction = first_is _ direction n
under_number n types.Net (Some protocols.Rarp) written direction = first_is _ direction n
under_number n types.Port None written direction = port_is _ direction n
under_number n types.Port (Some protocols.Tcp) written direction = port_is _ direction n
under_number n types.Port (Some protocols.Udp) written direction = port_is _ direction n
under_number n types.Port (Some protocols.Sctp) written direction = port_is _ direction n
under_number n types.Proto None None direction = proto_is n
under_number n types.Proto (Some protocols.Ip) None direction = proto_is n
under_number n types.Proto (Some protocols.Ether) None direction = type_is n
under_number n word protocol written direction = tt

-- an Ethernet address
pub under_ethernet : (a : EthernetAddress) → IsToken (kind.Ethernet a) → (word : TypeWord) (protocol : Option Protocol) (written : Option Direction) (direction : Direction) → Under (kind.Ethernet a ∷ []) word protocol written direction
under_ethernet a is types.Host None written direction = tt
under_ethernet a is types.Host (Some protocols.Ether) written direction = is
under_ethernet a is types.Net None written direction = tt
under_ethernet a is types.Net (Some protocols.Ip) written direction = tt
under_ethernet a is types.Port None written direction = tt
under_ethernet a is types.Port (Some protocols.Tcp) written direction = tt
under_ethernet a is types.Proto None None direction = tt
under_ethernet a is types.Proto (Some protocols.Ip) None direction = tt
under_ethernet a is types.Proto (Some protocols.Ether) None direction = tt
under_ethernet a is word protocol written direction = tt

-- an address and how many bits its mask has
pub under_prefix : (a : ℕ) (parts : Parts) (bits : ℕ) → a < 2 ^ 32 → (word : TypeWord) (protocol : Option Protocol) (written : Option Direction) (direction : Direction) → Under (kind.Dotted a parts ∷ kind.Operator Divide ∷ kind.Number bits ∷ []) word protocol written direction
under_prefix a parts bits la types.Host None written direction = tt
under_prefix a parts bits la types.Host (Some protocols.Ether) written direction = tt
under_prefix a parts bits la types.Net None written direction = prefix_is _ direction a bits la
under_prefix a parts bits la types.Net (Some protocols.Ip) written direction = prefix_is _ direction a bits la
under_prefix a parts bits la types.Net (Some protocols.Arp) written direction = prefix_is _ direction a bits la
under_prefix a parts bits la types.Net (Some protocols.Rarp) written direction = prefix_is _ direction a bits la
under_prefix a parts bits la types.Port None written direction = tt
under_prefix a parts bits la types.Port (Some protocols.Tcp) written direction = tt
under_prefix a parts bits la types.Proto None None direction = tt
under_prefix a parts bits la types.Proto (Some protocols.Ip) None direction = tt
under_prefix a parts bits la types.Proto (Some protocols.Ether) None direction = tt
under_prefix a parts bits la word protocol written direction = tt

-- an address and its mask
pub under_masked : (a : ℕ) (parts : Parts) (mask : ℕ) → a < 2 ^ 32 → mask < 2 ^ 32 → (word : TypeWord) (protocol : Option Protocol) (written : Option Direction) (direction : Direction) → Under (kind.Dotted a parts ∷ kind.Mask ∷ kind.Dotted mask Four ∷ []) word protocol written direction
under_masked a parts mask la lm types.Host None written direction = tt
under_masked a parts mask la lm types.Host (Some protocols.Ether) written direction = tt
under_masked a parts mask la lm types.Net None written direction = net_is _ direction a mask la lm
under_masked a parts mask la lm types.Net (Some protocols.Ip) written direction = net_is _ direction a mask la lm
under_masked a parts mask la lm types.Net (Some protocols.Arp) written direction = net_is _ direction a mask la lm
under_masked a parts mask la lm types.Net (Some protocols.Rarp) written direction = net_is _ direction a mask la lm
under_masked a parts mask la lm types.Port None written direction = tt
under_masked a parts mask la lm types.Port (Some protocols.Tcp) written direction = tt
under_masked a parts mask la lm types.Proto None None direction = tt
under_masked a parts mask la lm types.Proto (Some protocols.Ip) None direction = tt
under_masked a parts mask la lm types.Proto (Some protocols.Ether) None direction = tt
under_masked a parts mask la lm word protocol written direction = tt

-- a mask of two parts is none
pub under_masked_two : (a : ℕ) (parts : Parts) (mask : ℕ) → (word : TypeWord) (protocol : Option Protocol) (written : Option Direction) (direction : Direction) → Under (kind.Dotted a parts ∷ kind.Mask ∷ kind.Dotted mask Two ∷ []) word protocol written direction
under_masked_two a parts mask types.Host None written direction = tt
under_masked_two a parts mask types.Host (Some protocols.Ether) written direction = tt
under_masked_two a parts mask types.Net None written direction = tt
under_masked_two a parts mask types.Net (Some protocols.Ip) written direction = tt
under_masked_two a parts mask types.Port None written direction = tt
under_masked_two a parts mask types.Port (Some protocols.Tcp) written direction = tt
under_masked_two a parts mask types.Proto None None direction = tt
under_masked_two a parts mask types.Proto (Some protocols.Ip) None direction = tt
under_masked_two a parts mask types.Proto (Some protocols.Ether) None direction = tt
under_masked_two a parts mask word protocol written direction = tt

-- a mask of three parts is none
pub under_masked_three : (a : ℕ) (parts : Parts) (mask : ℕ) → (word : TypeWord) (protocol : Option Protocol) (written : Option Direction) (direction : Direction) → Under (kind.Dotted a parts ∷ kind.Mask ∷ kind.Dotted mask Three ∷ []) word protocol written direction
under_masked_three a parts mask types.Host None written direction = tt
under_masked_three a parts mask types.Host (Some protocols.Ether) written direction = tt
under_masked_three a parts mask types.Net None written direction = tt
under_masked_three a parts mask types.Net (Some protocols.Ip) written direction = tt
under_masked_three a parts mask types.Port None written direction = tt
under_masked_three a parts mask types.Port (Some protocols.Tcp) written direction = tt
under_masked_three a parts mask types.Proto None None direction = tt
under_masked_three a parts mask types.Proto (Some protocols.Ip) None direction = tt
under_masked_three a parts mask types.Proto (Some protocols.Ether) None direction = tt
under_masked_three a parts mask word protocol written direction = tt

-- an address of two parts
pub under_dotted_two : (a : ℕ) → a < 2 ^ 32 → (word : TypeWord) (protocol : Option Protocol) (written : Option Direction) (direction : Direction) → Under (kind.Dotted a Two ∷ []) word protocol written direction
under_dotted_two a la types.Host None written direction = tt
under_dotted_two a la types.Host (Some protocols.Ether) written direction = tt
under_dotted_two a la types.Net None written direction = net_is _ direction a (mask_of (bits_of Two)) la (mask_small (bits_of Two))
under_dotted_two a la types.Net (Some protocols.Ip) written direction = net_is _ direction a (mask_of (bits_of Two)) la (mask_small (bits_of Two))
under_dotted_two a la types.Net (Some protocols.Arp) written direction = net_is _ direction a (mask_of (bits_of Two)) la (mask_small (bits_of Two))
under_dotted_two a la types.Net (Some protocols.Rarp) written direction = net_is _ direction a (mask_of (bits_of Two)) la (mask_small (bits_of Two))
under_dotted_two a la types.Port None written direction = tt
under_dotted_two a la types.Port (Some protocols.Tcp) written direction = tt
under_dotted_two a la types.Proto None None direction = tt
under_dotted_two a la types.Proto (Some protocols.Ip) None direction = tt
under_dotted_two a la types.Proto (Some protocols.Ether) None direction = tt
under_dotted_two a la word protocol written direction = tt

-- an address of three parts
pub under_dotted_three : (a : ℕ) → a < 2 ^ 32 → (word : TypeWord) (protocol : Option Protocol) (written : Option Direction) (direction : Direction) → Under (kind.Dotted a Three ∷ []) word protocol written direction
under_dotted_three a la types.Host None written direction = tt
under_dotted_three a la types.Host (Some protocols.Ether) written direction = tt
under_dotted_three a la types.Net None written direction = net_is _ direction a (mask_of (bits_of Three)) la (mask_small (bits_of Three))
under_dotted_three a la types.Net (Some protocols.Ip) written direction = net_is _ direction a (mask_of (bits_of Three)) la (mask_small (bits_of Three))
under_dotted_three a la types.Net (Some protocols.Arp) written direction = net_is _ direction a (mask_of (bits_of Three)) la (mask_small (bits_of Three))
under_dotted_three a la types.Net (Some protocols.Rarp) written direction = net_is _ direction a (mask_of (bits_of Three)) la (mask_small (bits_of Three))
under_dotted_three a la types.Port None written direction = tt
under_dotted_three a la types.Port (Some protocols.Tcp) written direction = tt
under_dotted_three a la types.Proto None None direction = tt
under_dotted_three a la types.Proto (Some protocols.Ip) None direction = tt
under_dotted_three a la types.Proto (Some protocols.Ether) None direction = tt
under_dotted_three a la word protocol written direction = tt

-- an address of four parts
pub under_dotted_four : (a : ℕ) → a < 2 ^ 32 → (word : TypeWord) (protocol : Option Protocol) (written : Option Direction) (direction : Direction) → Under (kind.Dotted a Four ∷ []) word protocol written direction
under_dotted_four a la types.Host None written direction = (la, mask_small 32, host_net a la)
under_dotted_four a la types.Host (Some protocols.Ip) written direction = (la, mask_small 32, host_net a la)
under_dotted_four a la types.Host (Some protocols.Arp) written direction = (la, mask_small 32, host_net a la)
under_dotted_four a la types.Host (Some protocols.Rarp) written direction = (la, mask_small 32, host_net a la)
under_dotted_four a la types.Host (Some protocols.Ether) written direction = tt
under_dotted_four a la types.Net None written direction = net_is _ direction a (mask_of (bits_of Four)) la (mask_small (bits_of Four))
under_dotted_four a la types.Net (Some protocols.Ip) written direction = net_is _ direction a (mask_of (bits_of Four)) la (mask_small (bits_of Four))
under_dotted_four a la types.Net (Some protocols.Arp) written direction = net_is _ direction a (mask_of (bits_of Four)) la (mask_small (bits_of Four))
under_dotted_four a la types.Net (Some protocols.Rarp) written direction = net_is _ direction a (mask_of (bits_of Four)) la (mask_small (bits_of Four))
under_dotted_four a la types.Port None written direction = tt
under_dotted_four a la types.Port (Some protocols.Tcp) written direction = tt
under_dotted_four a la types.Proto None None direction = tt
under_dotted_four a la types.Proto (Some protocols.Ip) None direction = tt
under_dotted_four a la types.Proto (Some protocols.Ether) None direction = tt
under_dotted_four a la word protocol written direction = tt

-- the name of ether
pub under_name_ether : Unit {0} → (word : TypeWord) (protocol : Option Protocol) (written : Option Direction) (direction : Direction) → Under (kind.Name protocols.Ether ∷ []) word protocol written direction
under_name_ether u types.Host None written direction = tt
under_name_ether u types.Host (Some protocols.Ether) written direction = tt
under_name_ether u types.Net None written direction = tt
under_name_ether u types.Net (Some protocols.Ip) written direction = tt
under_name_ether u types.Port None written direction = tt
under_name_ether u types.Port (Some protocols.Tcp) written direction = tt
under_name_ether u types.Proto None None direction = tt
under_name_ether u types.Proto (Some protocols.Ip) None direction = tt
under_name_ether u types.Proto (Some protocols.Ether) None direction = tt
under_name_ether u word protocol written direction = tt

-- the name of ip
pub under_name_ip : Unit {0} → (word : TypeWord) (protocol : Option Protocol) (written : Option Direction) (direction : Direction) → Under (kind.Name protocols.Ip ∷ []) word protocol written direction
under_name_ip u types.Host None written direction = tt
under_name_ip u types.Host (Some protocols.Ether) written direction = tt
under_name_ip u types.Net None written direction = tt
under_name_ip u types.Net (Some protocols.Ip) written direction = tt
under_name_ip u types.Port None written direction = tt
under_name_ip u types.Port (Some protocols.Tcp) written direction = tt
under_name_ip u types.Proto None None direction = tt
under_name_ip u types.Proto (Some protocols.Ip) None direction = tt
under_name_ip u types.Proto (Some protocols.Ether) None direction = (omega arith, omega arith)
under_name_ip u word protocol written direction = tt

-- the name of arp
pub under_name_arp : Unit {0} → (word : TypeWord) (protocol : Option Protocol) (written : Option Direction) (direction : Direction) → Under (kind.Name protocols.Arp ∷ []) word protocol written direction
under_name_arp u types.Host None written direction = tt
under_name_arp u types.Host (Some protocols.Ether) written direction = tt
under_name_arp u types.Net None written direction = tt
under_name_arp u types.Net (Some protocols.Ip) written direction = tt
under_name_arp u types.Port None written direction = tt
under_name_arp u types.Port (Some protocols.Tcp) written direction = tt
under_name_arp u types.Proto None None direction = tt
under_name_arp u types.Proto (Some protocols.Ip) None direction = tt
under_name_arp u types.Proto (Some protocols.Ether) None direction = (omega arith, omega arith)
under_name_arp u word protocol written direction = tt

-- the name of rarp
pub under_name_rarp : Unit {0} → (word : TypeWord) (protocol : Option Protocol) (written : Option Direction) (direction : Direction) → Under (kind.Name protocols.Rarp ∷ []) word protocol written direction
under_name_rarp u types.Host None written direction = tt
under_name_rarp u types.Host (Some protocols.Ether) written direction = tt
under_name_rarp u types.Net None written direction = tt
under_name_rarp u types.Net (Some protocols.Ip) written direction = tt
under_name_rarp u types.Port None written direction = tt
under_name_rarp u types.Port (Some protocols.Tcp) written direction = tt
under_name_rarp u types.Proto None None direction = tt
under_name_rarp u types.Proto (Some protocols.Ip) None direction = tt
under_name_rarp u types.Proto (Some protocols.Ether) None direction = (omega arith, omega arith)
under_name_rarp u word protocol written direction = tt

-- the name of tcp
pub under_name_tcp : Unit {0} → (word : TypeWord) (protocol : Option Protocol) (written : Option Direction) (direction : Direction) → Under (kind.Name protocols.Tcp ∷ []) word protocol written direction
under_name_tcp u types.Host None written direction = tt
under_name_tcp u types.Host (Some protocols.Ether) written direction = tt
under_name_tcp u types.Net None written direction = tt
under_name_tcp u types.Net (Some protocols.Ip) written direction = tt
under_name_tcp u types.Port None written direction = tt
under_name_tcp u types.Port (Some protocols.Tcp) written direction = tt
under_name_tcp u types.Proto None None direction = omega arith
under_name_tcp u types.Proto (Some protocols.Ip) None direction = omega arith
under_name_tcp u types.Proto (Some protocols.Ether) None direction = tt
under_name_tcp u word protocol written direction = tt

-- the name of udp
pub under_name_udp : Unit {0} → (word : TypeWord) (protocol : Option Protocol) (written : Option Direction) (direction : Direction) → Under (kind.Name protocols.Udp ∷ []) word protocol written direction
under_name_udp u types.Host None written direction = tt
under_name_udp u types.Host (Some protocols.Ether) written direction = tt
under_name_udp u types.Net None written direction = tt
under_name_udp u types.Net (Some protocols.Ip) written direction = tt
under_name_udp u types.Port None written direction = tt
under_name_udp u types.Port (Some protocols.Tcp) written direction = tt
under_name_udp u types.Proto None None direction = omega arith
under_name_udp u types.Proto (Some protocols.Ip) None direction = omega arith
under_name_udp u types.Proto (Some protocols.Ether) None direction = tt
under_name_udp u word protocol written direction = tt

-- the name of icmp
pub under_name_icmp : Unit {0} → (word : TypeWord) (protocol : Option Protocol) (written : Option Direction) (direction : Direction) → Under (kind.Name protocols.Icmp ∷ []) word protocol written direction
under_name_icmp u types.Host None written direction = tt
under_name_icmp u types.Host (Some protocols.Ether) written direction = tt
under_name_icmp u types.Net None written direction = tt
under_name_icmp u types.Net (Some protocols.Ip) written direction = tt
under_name_icmp u types.Port None written direction = tt
under_name_icmp u types.Port (Some protocols.Tcp) written direction = tt
under_name_icmp u types.Proto None None direction = omega arith
under_name_icmp u types.Proto (Some protocols.Ip) None direction = omega arith
under_name_icmp u types.Proto (Some protocols.Ether) None direction = tt
under_name_icmp u word protocol written direction = tt

-- the name of sctp
pub under_name_sctp : Unit {0} → (word : TypeWord) (protocol : Option Protocol) (written : Option Direction) (direction : Direction) → Under (kind.Name protocols.Sctp ∷ []) word protocol written direction
under_name_sctp u types.Host None written direction = tt
under_name_sctp u types.Host (Some protocols.Ether) written direction = tt
under_name_sctp u types.Net None written direction = tt
under_name_sctp u types.Net (Some protocols.Ip) written direction = tt
under_name_sctp u types.Port None written direction = tt
under_name_sctp u types.Port (Some protocols.Tcp) written direction = tt
under_name_sctp u types.Proto None None direction = tt
under_name_sctp u types.Proto (Some protocols.Ip) None direction = tt
under_name_sctp u types.Proto (Some protocols.Ether) None direction = tt
under_name_sctp u word protocol written direction = tt
