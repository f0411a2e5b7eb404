-- Primitives that have no identifier.
use Rattle.std.specs.Prelude.{ℕ, Bool, true, false, not, List, [], ◌∷◌, Option, Some, None, option_map, option_and_then, min, max}
use Rattle.filterlang.specs.Types.{Kind, Protocol, Direction, Transport, Primitive, Plain}
use Rattle.filterlang.specs.Types.kind
use Rattle.filterlang.specs.Types.protocols
use Rattle.filterlang.specs.Types.primitives
use Rattle.filterlang.specs.Types.plain
use Rattle.filterlang.specs.Qualifiers.{port_of}

-- a protocol word that is a primitive of its own
abbrev pub plain_of : Protocol → Option Plain
plain_of protocols.Ether = None
plain_of protocols.Ip = Some plain.Ip
plain_of protocols.Arp = Some plain.Arp
plain_of protocols.Rarp = Some plain.Rarp
plain_of protocols.Tcp = Some plain.Tcp
plain_of protocols.Udp = Some plain.Udp
plain_of protocols.Icmp = Some plain.Icmp
plain_of protocols.Sctp = Some plain.Sctp

-- what an identifier begins with
abbrev pub begins_identifier : Kind → Bool
begins_identifier (kind.Number n) = true
begins_identifier (kind.Dotted address parts) = true
begins_identifier (kind.Ethernet address) = true
begins_identifier (kind.Name name) = true
begins_identifier _ = false

-- no identifier, `(`, `[` or portrange follows, nor, after ip, multicast
abbrev pub stands_alone : Protocol → List Kind → Bool
stands_alone protocol [] = true
stands_alone protocol (kind.Open ∷ ts) = false
stands_alone protocol (kind.OpenBracket ∷ ts) = false
stands_alone protocol (kind.PortRange ∷ ts) = false
stands_alone protocols.Ip (kind.Multicast ∷ ts) = false
stands_alone protocol (t ∷ ts) = not (begins_identifier t)

-- the ports from the one to the other, whichever comes first
abbrev pub ports_between : Option Transport → Direction → ℕ → ℕ → Option Primitive
ports_between transport direction first second =
    option_and_then (λ a. option_map (λ b. primitives.Ports transport direction (min a b) (max a b)) (port_of second)) (port_of first)
