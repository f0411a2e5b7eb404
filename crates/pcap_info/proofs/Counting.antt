-- One packet more in the contents of a capture.
use Rattle.std.proofs.Common.{◌≡◌, ℕ, ◌+◌, ◌-◌, ◌^◌, ◌≤◌, ◌<◌, min, Bool, true, false, if◌then◌else◌, List, [], ◌∷◌, ◌++◌, length, length-append, filter, Option, Some, None, refl, ap, ◌∙◌, sym, arith}
use Rattle.std.specs.List.{sum_by}
use Rattle.std.proofs.lemmas.List.Elements.{filter-append}
use Rattle.std.proofs.lemmas.List.Sums.{sum_by-append}
use Rattle.savefile.specs.declared.packet.Packet.{Packet}
use Rattle.pcap_info.specs.declared.contents.Contents.{Contents}
use Rattle.pcap_info.specs.declared.contents.FrameKind.{FrameKind}
use Rattle.pcap_info.specs.declared.contents.FrameKind.TheVariants.{Ipv4, Arp, Ipv6, Vlan, Other}
use Rattle.pcap_info.specs.declared.contents.KindCounts.{KindCounts}
use Rattle.pcap_info.specs.Contents.{AreKinds, IsContents, capped, count_of, first_moment, is_kind, kind_of, last_moment, moment_of, or_moment, with_frame, with_packet}

-- a number that was capped goes on as the one that was not
capped-more : (c a n : ℕ) → c ≡ capped a → capped (c + n) ≡ capped (a + n)
capped-more c a n is = omega (arith, is)

-- the sum of one packet more
sum-more : (f : Packet → ℕ) (ps : List Packet) (p : Packet) (c : ℕ) → c ≡ capped (sum_by f ps) →
    capped (c + f p) ≡ capped (sum_by f (ps ++ p ∷ []))
sum-more f ps p c is =
    capped-more c (sum_by f ps) (f p) is ∙ ap capped (sym (sum_by-append f ps (p ∷ []) ∙ omega arith))

-- how many frames of a kind there are with one more
count-more : (k : FrameKind) (ps : List Packet) (p : Packet) →
    count_of k (ps ++ p ∷ []) ≡ count_of k ps + length (if is_kind k (kind_of p.bytes) then p ∷ [] else [])
count-more k ps p =
    let test : Packet → Bool = λ q. is_kind k (kind_of q.bytes) in
    ap length (filter-append test ps (p ∷ [])) ∙ length-append (filter test ps) (filter test (p ∷ []))

kind-up : (k : FrameKind) (ps : List Packet) (p : Packet) (c : ℕ) → is_kind k (kind_of p.bytes) ≡ true → c ≡ capped (count_of k ps) →
    capped (c + 1) ≡ capped (count_of k (ps ++ p ∷ []))
kind-up k ps p c here is =
    capped-more c (count_of k ps) 1 is
    ∙ ap capped (sym (count-more k ps p ∙ ap (λ (b : Bool). count_of k ps + length (if b then p ∷ [] else [])) here))

kind-same : (k : FrameKind) (ps : List Packet) (p : Packet) (c : ℕ) → is_kind k (kind_of p.bytes) ≡ false → c ≡ capped (count_of k ps) →
    c ≡ capped (count_of k (ps ++ p ∷ []))
kind-same k ps p c here is =
    is ∙ ap capped (sym (count-more k ps p ∙ ap (λ (b : Bool). count_of k ps + length (if b then p ∷ [] else [])) here ∙ omega arith))

-- one frame more of some kind
kinds-more : (x : FrameKind) (ps : List Packet) (p : Packet) (c : KindCounts) → kind_of p.bytes ≡ x → AreKinds ps c →
    AreKinds (ps ++ p ∷ []) (with_frame c x)
kinds-more Ipv4 ps p c here are = record {
  ipv4 = kind-up Ipv4 ps p _ (ap (is_kind Ipv4) here) are.ipv4;
  arp = kind-same Arp ps p _ (ap (is_kind Arp) here) are.arp;
  ipv6 = kind-same Ipv6 ps p _ (ap (is_kind Ipv6) here) are.ipv6;
  vlan = kind-same Vlan ps p _ (ap (is_kind Vlan) here) are.vlan;
  other = kind-same Other ps p _ (ap (is_kind Other) here) are.other;
}
kinds-more Arp ps p c here are = record {
  ipv4 = kind-same Ipv4 ps p _ (ap (is_kind Ipv4) here) are.ipv4;
  arp = kind-up Arp ps p _ (ap (is_kind Arp) here) are.arp;
  ipv6 = kind-same Ipv6 ps p _ (ap (is_kind Ipv6) here) are.ipv6;
  vlan = kind-same Vlan ps p _ (ap (is_kind Vlan) here) are.vlan;
  other = kind-same Other ps p _ (ap (is_kind Other) here) are.other;
}
kinds-more Ipv6 ps p c here are = record {
  ipv4 = kind-same Ipv4 ps p _ (ap (is_kind Ipv4) here) are.ipv4;
  arp = kind-same Arp ps p _ (ap (is_kind Arp) here) are.arp;
  ipv6 = kind-up Ipv6 ps p _ (ap (is_kind Ipv6) here) are.ipv6;
  vlan = kind-same Vlan ps p _ (ap (is_kind Vlan) here) are.vlan;
  other = kind-same Other ps p _ (ap (is_kind Other) here) are.other;
}
kinds-more Vlan ps p c here are = record {
  ipv4 = kind-same Ipv4 ps p _ (ap (is_kind Ipv4) here) are.ipv4;
  arp = kind-same Arp ps p _ (ap (is_kind Arp) here) are.arp;
  ipv6 = kind-same Ipv6 ps p _ (ap (is_kind Ipv6) here) are.ipv6;
  vlan = kind-up Vlan ps p _ (ap (is_kind Vlan) here) are.vlan;
  other = kind-same Other ps p _ (ap (is_kind Other) here) are.other;
}
kinds-more Other ps p c here are = record {
  ipv4 = kind-same Ipv4 ps p _ (ap (is_kind Ipv4) here) are.ipv4;
  arp = kind-same Arp ps p _ (ap (is_kind Arp) here) are.arp;
  ipv6 = kind-same Ipv6 ps p _ (ap (is_kind Ipv6) here) are.ipv6;
  vlan = kind-same Vlan ps p _ (ap (is_kind Vlan) here) are.vlan;
  other = kind-up Other ps p _ (ap (is_kind Other) here) are.other;
}

first-more : (ps : List Packet) (p : Packet) → or_moment (first_moment ps) (moment_of p) ≡ first_moment (ps ++ p ∷ [])
first-more [] p = refl
first-more (q ∷ qs) p = refl

last-more : (ps : List Packet) (p : Packet) → Some (moment_of p) ≡ last_moment (ps ++ p ∷ [])
unfolding last_moment
last-more [] p = refl
last-more (q ∷ []) p = refl
last-more (q ∷ r ∷ rs) p = last-more (r ∷ rs) p

-- the contents with one packet more
pub contents-more : (ps : List Packet) (p : Packet) (c : Contents) → IsContents ps c → IsContents (ps ++ p ∷ []) (with_packet c p)
contents-more ps p c are = record {
  number = capped-more c.packets (length ps) 1 are.number ∙ ap capped (sym (length-append ps (p ∷ [])));
  len = sum-more (λ q. q.len) ps p c.len are.len;
  captured = sum-more (λ q. length q.bytes) ps p c.captured are.captured;
  first = ap (λ (m : Option _). or_moment m (moment_of p)) are.first ∙ first-more ps p;
  last = last-more ps p;
  kinds = kinds-more (kind_of p.bytes) ps p c.kinds refl are.kinds;
}

-- the contents of no packet
pub contents-none : IsContents [] record { packets = 0; len = 0; captured = 0; first = None; last = None; kinds = record { ipv4 = 0; arp = 0; ipv6 = 0; vlan = 0; other = 0 } }
unfolding last_moment
contents-none = record { number = refl; len = refl; captured = refl; first = refl; last = refl; kinds = record { ipv4 = refl; arp = refl; ipv6 = refl; vlan = refl; other = refl } }
