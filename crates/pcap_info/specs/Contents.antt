-- What is counted of the packets of a capture.
use Rattle.std.specs.Prelude.{◌≡◌, ℕ, ◌+◌, ◌-◌, ◌^◌, min, nat_lt, ◌==◌, ◌||◌, Bool, true, false, if◌then◌else◌, List, [], ◌∷◌, length, filter, drop, Option, Some, None}
use Rattle.std.specs.List.{sum_by}
use Rattle.byteorder.specs.Endian.{big_number}
use Rattle.savefile.specs.declared.packet.Packet.{Packet}
use Rattle.pcap_info.specs.declared.contents.Contents.{Contents}
use Rattle.pcap_info.specs.declared.contents.FrameKind.{FrameKind}
use Rattle.pcap_info.specs.declared.contents.FrameKind.TheVariants.{Ipv4, Arp, Ipv6, Vlan, Other}
use Rattle.pcap_info.specs.declared.contents.KindCounts.{KindCounts}
use Rattle.pcap_info.specs.declared.contents.Moment.{Moment}

-- ---- The kind of a frame

-- the types of the frames with a VLAN tag
abbrev pub is_vlan_type : ℕ → Bool
is_vlan_type n = n == 0x8100 || n == 0x88a8 || n == 0x9100

abbrev pub kind_of_type : ℕ → FrameKind
kind_of_type n =
    if n == 0x0800 then Ipv4
    else if n == 0x0806 then Arp
    else if n == 0x86dd then Ipv6
    else if is_vlan_type n then Vlan
    else Other

-- by its type, bytes 12 and 13 of the frame, where the header of 14 bytes was captured
abbrev pub kind_of : List ℕ → FrameKind
kind_of frame = if nat_lt (length frame) 14 then Other else kind_of_type (big_number 2 (drop 12 frame))

-- ---- Numbers

-- a number as far as 64 bits count
abbrev pub capped : ℕ → ℕ
capped n = min n (2 ^ 64 - 1)

-- whether two kinds are one
abbrev pub is_kind : FrameKind → FrameKind → Bool
is_kind Ipv4 Ipv4 = true
is_kind Arp Arp = true
is_kind Ipv6 Ipv6 = true
is_kind Vlan Vlan = true
is_kind Other Other = true
is_kind _ _ = false

-- how many of these packets are frames of a kind
abbrev pub count_of : FrameKind → List Packet → ℕ
count_of kind packets = length (filter (λ p. is_kind kind (kind_of p.bytes)) packets)

-- when a packet was captured
abbrev pub moment_of : Packet → Moment
moment_of p = record { sec = p.sec; nanos = p.nanos }

-- when the first of these packets was captured, and the last one
abbrev pub first_moment : List Packet → Option Moment
first_moment [] = None
first_moment (p ∷ ps) = Some (moment_of p)

unfoldable pub last_moment : List Packet → Option Moment
last_moment [] = None
last_moment (p ∷ []) = Some (moment_of p)
last_moment (p ∷ q ∷ ps) = last_moment (q ∷ ps)

-- ---- The contents

-- of each kind that many frames
pub record AreKinds (packets : List Packet) (c : KindCounts) : Type 0 where
  pub ipv4 : c.ipv4 ≡ capped (count_of Ipv4 packets)
  pub arp : c.arp ≡ capped (count_of Arp packets)
  pub ipv6 : c.ipv6 ≡ capped (count_of Ipv6 packets)
  pub vlan : c.vlan ≡ capped (count_of Vlan packets)
  pub other : c.other ≡ capped (count_of Other packets)

-- these are the contents of a capture with these packets
pub record IsContents (packets : List Packet) (c : Contents) : Type 0 where
  pub number : c.packets ≡ capped (length packets)
  pub len : c.len ≡ capped (sum_by (λ p. p.len) packets)
  pub captured : c.captured ≡ capped (sum_by (λ p. length p.bytes) packets)
  pub first : c.first ≡ first_moment packets
  pub last : c.last ≡ last_moment packets
  pub kinds : AreKinds packets c.kinds

-- ---- One packet more

abbrev pub with_frame : KindCounts → FrameKind → KindCounts
with_frame c Ipv4 = record { ipv4 = capped (c.ipv4 + 1); arp = c.arp; ipv6 = c.ipv6; vlan = c.vlan; other = c.other }
with_frame c Arp = record { ipv4 = c.ipv4; arp = capped (c.arp + 1); ipv6 = c.ipv6; vlan = c.vlan; other = c.other }
with_frame c Ipv6 = record { ipv4 = c.ipv4; arp = c.arp; ipv6 = capped (c.ipv6 + 1); vlan = c.vlan; other = c.other }
with_frame c Vlan = record { ipv4 = c.ipv4; arp = c.arp; ipv6 = c.ipv6; vlan = capped (c.vlan + 1); other = c.other }
with_frame c Other = record { ipv4 = c.ipv4; arp = c.arp; ipv6 = c.ipv6; vlan = c.vlan; other = capped (c.other + 1) }

-- the moment that is there, or else this one
abbrev pub or_moment : Option Moment → Moment → Option Moment
or_moment None m = Some m
or_moment (Some n) m = Some n

abbrev pub with_packet : Contents → Packet → Contents
with_packet c p = record {
  packets = capped (c.packets + 1);
  len = capped (c.len + p.len);
  captured = capped (c.captured + length p.bytes);
  first = or_moment c.first (moment_of p);
  last = Some (moment_of p);
  kinds = with_frame c.kinds (kind_of p.bytes);
}
