-- Primitives are good.
use Rattle.std.proofs.Common.{◌≡◌, ℕ, ◌+◌, ◌*◌, ◌==◌, Bool, not, List, [], ◌∷◌, length, Option, Some, None, Ok, Err, refl, sym, ap, ◌∙◌, nat_le, bit_and}
use Rattle.std.specs.Prelude.{Result, option_and_then}
use Rattle.bpfvm.specs.Machine.{number_at}
use Rattle.filter_tree.specs.declared.tree.Direction.{Direction}
use Rattle.filter_tree.specs.declared.tree.Direction.TheVariants.{Src, Dst, SrcOrDst, SrcAndDst}
use Rattle.filter_tree.specs.declared.tree.Network.{Network}
use Rattle.filter_tree.specs.declared.tree.Network.TheVariants as networks
use Rattle.filter_tree.specs.declared.tree.Transport.{Transport}
use Rattle.filter_tree.specs.declared.tree.Plain.{Plain}
use Rattle.filter_tree.specs.declared.tree.Plain.TheVariants as words
use Rattle.filter_tree.specs.declared.tree.Primitive.{Primitive}
use Rattle.filter_tree.specs.declared.tree.Primitive.TheVariants.{Protocol, Net, EtherHost, Ports, IpProto, EtherProto, EtherBroadcast, EtherMulticast, IpMulticast, Less, Greater}
use Rattle.filter_meaning.specs.declared.verdict.Verdict.{Verdict}
use Rattle.filter_meaning.specs.declared.cause.AbortCause.{AbortCause}
use Rattle.filter_meaning.specs.declared.cause.AbortCause.TheVariants.{ZeroDivisor}
use Rattle.filter_meaning.specs.declared.frame.Look.{Look}
use Rattle.filter_meaning.specs.declared.frame.Look.TheVariants.{Bytes, Length}
use Rattle.filter_meaning.specs.Meaning.{Packet, Test, decided, check, byte, half, is_type, is_protocol, is_first_fragment_of, plain_test, by_direction, has_address, in_net, in_any_net, is_address, address_number, half_behind_header, within, has_port, has_ports, has_any_ports, protocol_number, primitive_test}
use Rattle.filter_meaning.specs.Looks.{Asked, asked, both, either, bytes_found, field, wire_field, type_asked, protocol_asked, first_fragment_asked, plain_asked, address_asked, ether_asked, port_asked, directed_asked, net_asked, any_net_asked, ports_asked, any_ports_asked, primitive_asked, verdict_of}
use Rattle.filter_meaning.specs.Laws.{AgreeOn, PrimitivesAnswerAsMeant, PrimitivesAnswerByLooks, PrimitivesEnd}
use Rattle.filter_meaning.proofs.Good.{Good, checked, err_of, both_good, either_good, then_good, means, bytes_good, field_good}

-- what is asked of a side, of both packets
abbrev Sides : (p r : Packet) (Z : Type 0) → (ℕ → Packet → Asked) → (ℕ → Test) → Type 0
Sides p r Z side test = (offset : ℕ) → Good p r (side offset p) (side offset r) (test offset p) Z

port_checked : (condition : ℕ → Bool) (m : Option ℕ) (f : ℕ → Option ℕ) → checked m (λ b. check condition (f b)) ≡ check condition (option_and_then f m)
port_checked condition None f = refl
port_checked condition (Some b) f = refl

module _ (p r : Packet) (long : length p.captured ≡ length r.captured) (Z : Type 0) where
  pub type_good : (n : ℕ) → Good p r (type_asked n p) (type_asked n r) (is_type n p) Z
  type_good n = field_good p r long 12 2 (λ h. h == n) Z

  protocol_good : (n : ℕ) → Good p r (protocol_asked n p) (protocol_asked n r) (is_protocol n p) Z
  protocol_good n = both_good (type_good 0x0800) (field_good p r long 23 1 (λ b. b == n) Z)

  pub first_fragment_good : (n : ℕ) → Good p r (first_fragment_asked n p) (first_fragment_asked n r) (is_first_fragment_of n p) Z
  first_fragment_good n = both_good (protocol_good n) (field_good p r long 20 2 (λ b. bit_and b 0x1fff == 0) Z)

  plain_good : (w : Plain) → Good p r (plain_asked w p) (plain_asked w r) (plain_test w p) Z
  plain_good words.Ip = type_good 0x0800
  plain_good words.Arp = type_good 0x0806
  plain_good words.Rarp = type_good 0x8035
  plain_good words.Icmp = protocol_good 1
  plain_good words.Tcp = protocol_good 6
  plain_good words.Udp = protocol_good 17
  plain_good words.Sctp = protocol_good 132

  address_good : (address mask : ℕ) → Sides p r Z (address_asked address mask) (has_address address mask)
  address_good address mask offset = field_good p r long offset 4 (λ w. bit_and w mask == address) Z

  ether_good : (address offset : ℕ) → Good p r (ether_asked address offset p) (ether_asked address offset r) (check (λ n. n == address) (number_at p.captured offset 6)) Z
  ether_good address offset = field_good p r long offset 6 (λ n. n == address) Z

  port_good : (low high : ℕ) → Sides p r Z (port_asked low high) (has_port low high)
  port_good low high offset =
      let at : (b : ℕ) → ℕ = λ b. 14 + 4 * bit_and b 15 + offset in
      means (port_checked (within low high) (byte 14 p) (λ b. half (at b) p))
      (then_good p r (bytes_found 14 1 p) (bytes_found 14 1 r) (λ b. field (at b) 2 (within low high) p) (λ b. field (at b) 2 (within low high) r) (byte 14 p)
      (λ b. check (within low high) (half (at b) p)) Z (bytes_good p r long 14 1 Z) (λ b. field_good p r long (at b) 2 (within low high) Z))

  directed_good : (direction : Direction) (side : ℕ → Packet → Asked) (test : ℕ → Test) (source destination : ℕ) → Sides p r Z side test →
      Good p r (directed_asked direction side source destination p) (directed_asked direction side source destination r) (by_direction direction (test source) (test destination) p) Z
  directed_good Src side test source destination good = good source
  directed_good Dst side test source destination good = good destination
  directed_good SrcOrDst side test source destination good = either_good (good source) (good destination)
  directed_good SrcAndDst side test source destination good = both_good (good source) (good destination)

  net_good : (network : Network) (direction : Direction) (address mask : ℕ) →
      Good p r (net_asked network direction (address_asked address mask) p) (net_asked network direction (address_asked address mask) r) (in_net network direction address mask p) Z
  net_good networks.Ip direction address mask =
      both_good (type_good 0x0800) (directed_good direction (address_asked address mask) (has_address address mask) 26 30 (address_good address mask))
  net_good networks.Arp direction address mask =
      both_good (type_good 0x0806) (directed_good direction (address_asked address mask) (has_address address mask) 28 38 (address_good address mask))
  net_good networks.Rarp direction address mask =
      both_good (type_good 0x8035) (directed_good direction (address_asked address mask) (has_address address mask) 28 38 (address_good address mask))

  any_net_good : (network : Option Network) (direction : Direction) (address mask : ℕ) →
      Good p r (any_net_asked network direction (address_asked address mask) p) (any_net_asked network direction (address_asked address mask) r) (in_any_net network direction address mask p) Z
  any_net_good (Some network) direction address mask = net_good network direction address mask
  any_net_good None direction address mask =
      either_good (either_good (net_good networks.Ip direction address mask) (net_good networks.Arp direction address mask)) (net_good networks.Rarp direction address mask)

  ports_good : (n : ℕ) (direction : Direction) (low high : ℕ) →
      Good p r (ports_asked n direction (port_asked low high) p) (ports_asked n direction (port_asked low high) r) (has_ports n direction low high p) Z
  ports_good n direction low high =
      both_good (first_fragment_good n) (directed_good direction (port_asked low high) (has_port low high) 0 2 (port_good low high))

  any_ports_good : (transport : Option Transport) (direction : Direction) (low high : ℕ) →
      Good p r (any_ports_asked transport direction (port_asked low high) p) (any_ports_asked transport direction (port_asked low high) r) (has_any_ports transport direction low high p) Z
  any_ports_good (Some transport) direction low high = ports_good (protocol_number transport) direction low high
  any_ports_good None direction low high =
      either_good (either_good (ports_good 6 direction low high) (ports_good 17 direction low high)) (ports_good 132 direction low high)

  wire_good : (condition : ℕ → Bool) → Good p r (wire_field condition p) (wire_field condition r) (decided (condition p.wire)) Z
  wire_good condition = record {
    meant = refl;
    same = λ agree. ap (λ (w : ℕ). asked (Ok (condition w)) (Length ∷ [])) (sym agree.0);
    ends = (tt, tt);
    zero = λ none. absurd cc;
  }

  primitive_good : (q : Primitive) → Good p r (primitive_asked q p) (primitive_asked q r) (primitive_test q p) Z
  primitive_good (Protocol word) = plain_good word
  primitive_good (Net network direction address mask) = any_net_good network direction address mask
  primitive_good (EtherHost direction address) =
      directed_good direction (ether_asked (address_number address.octets)) (is_address address.octets) 6 0 (ether_good (address_number address.octets))
  primitive_good (Ports transport direction low high) = any_ports_good transport direction low high
  primitive_good (IpProto n) = protocol_good n
  primitive_good (EtherProto n) = type_good n
  primitive_good EtherBroadcast = ether_good 0xffffffffffff 0
  primitive_good EtherMulticast = field_good p r long 0 1 (λ b. not (bit_and b 1 == 0)) Z
  primitive_good IpMulticast = both_good (type_good 0x0800) (field_good p r long 30 1 (λ b. nat_le 224 b) Z)
  primitive_good (Less n) = wire_good (λ wire. nat_le wire n)
  primitive_good (Greater n) = wire_good (λ wire. nat_le n wire)

pub primitives_meant : PrimitivesAnswerAsMeant
primitives_meant q p = (primitive_good p p refl ⊥ q).meant

pub primitives_by_looks : PrimitivesAnswerByLooks
primitives_by_looks q p r long agree = (primitive_good p r long ⊥ q).same agree

pub primitives_end : PrimitivesEnd
primitives_end q p = let good = primitive_good p p refl ⊥ q in (good.ends, λ zero. good.zero (ap err_of zero))
