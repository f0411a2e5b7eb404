-- Code that decides given what is known of a packet.
use Rattle.std.proofs.Common.{◌≡◌, ℕ, ◌+◌, ◌≤◌, ◌⊎◌, inl, inr, ◌==◌, Bool, true, false, List, Option, Some, None, refl, sym, ap, ◌∙◌}
use Rattle.bpfvm.specs.declared.insn.Insn.{Insn}
use Rattle.filter_tree.specs.declared.tree.Direction.{Direction}
use Rattle.filter_tree.specs.declared.tree.Network.{Network}
use Rattle.filter_tree.specs.declared.tree.Network.TheVariants as networks
use Rattle.filter_tree.specs.declared.tree.Transport.{Transport}
use Rattle.filter_tree.specs.declared.tree.Transport.TheVariants.{Tcp, Udp, Sctp}
use Rattle.filtergen_code.specs.declared.code.Exits.{Exits}
use Rattle.filtergen_facts.specs.declared.packet_facts.PacketFacts.{PacketFacts}
use Rattle.filtergen_code.specs.declared.entries.Entry.{Entry}
use Rattle.filtergen_code.specs.declared.entries.Targets.{Targets}
use Rattle.filter_meaning.specs.declared.verdict.Verdict.{Verdict}
use Rattle.filter_meaning.specs.declared.verdict.Verdict.TheVariants.{Yes, No, Abort}
use Rattle.filter_meaning.specs.Meaning.{Packet, Test, and_then, or_else, and_test, or_test, not_test, check, decided, byte, half, is_type, is_protocol, is_first_fragment_of, by_direction, has_address, in_any_net, has_port, has_any_ports, protocol_number}
use Rattle.filtergen_code.specs.Emission.{Extends, outcome, Decides}
use Rattle.filtergen_code.specs.Remaining.{shows, is_unfragmented}
use Rattle.filtergen_code.specs.Parts.{of_transport}
use Rattle.filtergen_facts.specs.Lists.{of_any_type}
use Rattle.filtergen_code.specs.Entries.{is_first_fragment, IsEntry, AreTargets, RelaysBoth, DecidesBy, DecidesGiven, IsFor}
use Rattle.filtergen_code.proofs.Runs.{extends-none, extends-both, extends-more, answers-kept, equal-true}
use Rattle.filtergen_code.proofs.Deciding.{outcome-either, outcome-opposite}
use Rattle.filtergen_code.proofs.Leading.{suits-any, suits-first, serves-any, place-kept}
use Rattle.filtergen_code.proofs.Knowing.{and-left, and-right}

-- what decides a test of any packet does so given what is known, also where it is the whole test only there
pub given-rest : {k : ℕ} {t : Test} (known : PacketFacts) (u : Test) {targets : Targets} {entry : Entry} {a b : List Insn} → ((p : Packet) → shows known p ≡ Yes → t p ≡ u p)
    → DecidesBy k t targets entry a b → DecidesGiven known k u targets entry a b
given-rest known u same first = record {
  extends = first.extends;
  here = first.here;
  decides = λ p m n bytes yes' no'. record { found = _; serves = first.decides p m n bytes yes' no'; right = λ holds. ap (λ v. outcome v m n) (same p holds) };
}

pub given-any : {k : ℕ} {t : Test} (known : PacketFacts) {targets : Targets} {entry : Entry} {a b : List Insn} → DecidesBy k t targets entry a b → DecidesGiven known k t targets entry a b
given-any {k} {t} known first = given-rest known t (λ p holds. refl) first

pub given-more : {k : ℕ} (l : ℕ) {known : PacketFacts} {t : Test} {targets : Targets} {entry : Entry} {a b : List Insn} → k ≤ l → DecidesGiven known k t targets entry a b → DecidesGiven known l t targets entry a b
given-more l more first = record { extends = extends-more l more first.extends; here = first.here; decides = first.decides }

-- a test by renewed ways
pub given-relayed : {k l : ℕ} {known : PacketFacts} {t : Test} {targets relayed : Targets} {entry : Entry} {a b c : List Insn} → Extends k a b → RelaysBoth targets relayed a b
    → DecidesGiven known l t relayed entry b c → DecidesGiven known (k + l) t targets entry a c
given-relayed extends relays first = record {
  extends = extends-both extends first.extends;
  here = first.here;
  decides = λ p m n bytes yes' no'. first.decides p m n bytes (relays.yes.serves p m yes') (relays.no.serves p n no');
}

pub relays-none : (targets : Targets) (a : List Insn) → AreTargets a targets → RelaysBoth targets targets a a
relays-none targets a are = record {
  yes = record { here = are.0; serves = λ p n before. before };
  no = record { here = are.1; serves = λ p n before. before };
}

-- the second test counts only where the first one is Yes, and there more is known
outcome-after : (v w : Verdict) (m n x : ℕ) → (v ≡ Yes → x ≡ outcome w m n) → outcome v x n ≡ outcome (and_then v w) m n
outcome-after Yes w m n x is = is refl
outcome-after No w m n x is = refl
outcome-after Abort w m n x is = refl

pub given-both : {k l : ℕ} {known later : PacketFacts} {t u : Test} {targets relayed : Targets} {second first : Entry} {a b c : List Insn}
    → ((p : Packet) → shows known p ≡ Yes → t p ≡ Yes → shows later p ≡ Yes) → RelaysBoth targets relayed a b
    → DecidesGiven later k u targets second a b → DecidesGiven known l t (record { yes = second; no = relayed.no }) first b c → DecidesGiven known (k + l) (and_test t u) targets first a c
given-both {k} {l} {known} {later} {t} {u} shown relays after before = record {
  extends = extends-both after.extends before.extends;
  here = before.here;
  decides = λ p m n bytes yes' no'.
      let right = after.decides p m n bytes yes' no' in
      let left = before.decides p right.found n bytes right.serves (relays.no.serves p n no') in
      record {
        found = left.found;
        serves = left.serves;
        right = λ holds. left.right holds ∙ outcome-after (t p) (u p) m n right.found (λ passed. right.right (shown p holds passed));
      };
}

pub given-either : {k l : ℕ} {known : PacketFacts} {t u : Test} {targets relayed : Targets} {second first : Entry} {a b c : List Insn} → RelaysBoth targets relayed a b
    → DecidesGiven known k u targets second a b → DecidesGiven known l t (record { yes = relayed.yes; no = second }) first b c → DecidesGiven known (k + l) (or_test t u) targets first a c
given-either {k} {l} {known} {t} {u} relays after before = record {
  extends = extends-both after.extends before.extends;
  here = before.here;
  decides = λ p m n bytes yes' no'.
      let right = after.decides p m n bytes yes' no' in
      let left = before.decides p m right.found bytes (relays.yes.serves p m yes') right.serves in
      record {
        found = left.found;
        serves = left.serves;
        right = λ holds. left.right holds ∙ ap (λ x. outcome (t p) m x) (right.right holds) ∙ outcome-either (t p) (u p) m n;
      };
}

pub given-not : {k : ℕ} {known : PacketFacts} {t : Test} {targets : Targets} {entry : Entry} {a b : List Insn} → DecidesGiven known k t (record { yes = targets.no; no = targets.yes }) entry a b
    → DecidesGiven known k (not_test t) targets entry a b
given-not {k} {known} {t} first = record {
  extends = first.extends;
  here = first.here;
  decides = λ p m n bytes yes' no'.
      let inner = first.decides p n m bytes no' yes' in
      record { found = inner.found; serves = inner.serves; right = λ holds. inner.right holds ∙ outcome-opposite (t p) m n };
}

-- a test that is known to be Yes
pub given-passed : (known : PacketFacts) (t : Test) (targets : Targets) (a : List Insn) → IsEntry a targets.yes → ((p : Packet) → shows known p ≡ Yes → t p ≡ Yes) → DecidesGiven known 0 t targets targets.yes a a
given-passed known t targets a here passes = record {
  extends = extends-none a;
  here = here;
  decides = λ p m n bytes yes' no'. record { found = m; serves = yes'; right = λ holds. sym (ap (λ v. outcome v m n) (passes p holds)) };
}

-- what is left of a test where the packet is known to be of IPv4
pub given-ip : {k e : ℕ} {u : Test} (known : PacketFacts) (t : Test) (targets : Targets) {a b : List Insn} → ((p : Packet) → shows known p ≡ Yes → is_type 0x0800 p ≡ Yes)
    → ((p : Packet) → shows known p ≡ Yes → u p ≡ t p) → Decides k u (record { yes = targets.yes.ip; no = targets.no.ip }) e a b
    → DecidesGiven known k t targets (record { any = e; ip = e; other = e; first_fragment = e; transport = None }) a b
given-ip {k} {e} {u} known t targets {a} {b} typed same first = record {
  extends = first.extends;
  here = record { any = first.here; ip = first.here; other = first.here; first_fragment = first.here };
  decides = λ p m n bytes yes' no'.
      let y = yes'.ip in
      let z = no'.ip in
      record {
        found = _;
        serves = serves-any b e _ p (first.decides p y.found z.found bytes y.answers z.answers);
        right = λ holds.
            ap (λ x. outcome (u p) x z.found) (y.right (typed p holds))
            ∙ ap (λ x. outcome (u p) m x) (z.right (typed p holds))
            ∙ ap (λ v. outcome v m n) (same p holds);
      };
}

-- where it is known to be a first fragment
pub given-first : {k e : ℕ} {u : Test} (known : PacketFacts) (transport : Transport) (t : Test) (targets : Targets) {exits : Exits} {a b : List Insn}
    → IsFor (Some transport) exits.yes targets.yes → IsFor (Some transport) exits.no targets.no
    → ((p : Packet) → shows known p ≡ Yes → is_first_fragment (Some transport) p ≡ Yes)
    → ((p : Packet) → shows known p ≡ Yes → u p ≡ t p) → Decides k u exits e a b
    → DecidesGiven known k t targets (record { any = e; ip = e; other = e; first_fragment = e; transport = None }) a b
given-first {k} {e} {u} known transport t targets {exits} {a} {b} of_yes of_no shown same first = record {
  extends = first.extends;
  here = record { any = first.here; ip = first.here; other = first.here; first_fragment = first.here };
  decides = λ p m n bytes yes' no'.
      let y = suits-first exits.yes (Some transport) of_yes yes' in
      let z = suits-first exits.no (Some transport) of_no no' in
      record {
        found = _;
        serves = serves-any b e _ p (first.decides p y.found z.found bytes y.answers z.answers);
        right = λ holds.
            ap (λ x. outcome (u p) x z.found) (y.right (shown p holds))
            ∙ ap (λ x. outcome (u p) m x) (z.right (shown p holds))
            ∙ ap (λ v. outcome v m n) (same p holds);
      };
}

-- the outcome after the test of the fragment, where the exits are for a first fragment and for IPv4
outcome-unfragmented : (f w : Verdict) (m n y z n2 : ℕ) → (f ≡ Yes → y ≡ m) → (f ≡ Yes → z ≡ n) → n2 ≡ n → outcome f (outcome w y z) n2 ≡ outcome (and_then f w) m n
outcome-unfragmented Yes w m n y z n2 of_yes of_no ip = ap (λ x. outcome w x z) (of_yes refl) ∙ ap (λ x. outcome w m x) (of_no refl)
outcome-unfragmented No w m n y z n2 of_yes of_no ip = ip
outcome-unfragmented Abort w m n y z n2 of_yes of_no ip = refl

both-yes : (v w : Verdict) → v ≡ Yes → w ≡ Yes → and_then v w ≡ Yes
both-yes v w first second = ap (λ x. and_then x w) first ∙ second

-- where its protocol is known
pub given-number : {k first any : ℕ} {u : Test} (known : PacketFacts) (transport : Transport) (t : Test) (targets : Targets) {exits : Exits} {a b c : List Insn} → AreTargets a targets
    → IsFor (Some transport) exits.yes targets.yes → IsFor (Some transport) exits.no targets.no
    → ((p : Packet) → shows known p ≡ Yes → is_protocol (protocol_number transport) p ≡ Yes)
    → ((p : Packet) → shows known p ≡ Yes → and_then (is_unfragmented p) (u p) ≡ t p)
    → Decides k u exits first a b → Decides 4 is_unfragmented (record { yes = first; no = targets.no.ip }) any b c
    → DecidesGiven known (k + 4) t targets (record { any = any; ip = any; other = any; first_fragment = first; transport = Some transport }) a c
given-number {k} {first} {any} {u} known transport t targets {exits} {a} {b} {c} are of_yes of_no shown same tested unfragmented = record {
  extends = extends-both tested.extends unfragmented.extends;
  here = record { any = unfragmented.here; ip = unfragmented.here; other = unfragmented.here; first_fragment = place-kept first unfragmented.extends tested.here };
  decides = λ p m n bytes yes' no'.
      let f = is_unfragmented p in
      let number = is_protocol (protocol_number transport) p in
      let y = suits-first exits.yes (Some transport) of_yes yes' in
      let z = suits-first exits.no (Some transport) of_no no' in
      let n2 = no'.ip in
      let of_first = tested.decides p y.found z.found bytes y.answers z.answers in
      let of_any = unfragmented.decides p _ _ bytes of_first (answers-kept targets.no.ip n2.found p tested.extends are.1.ip.1 n2.answers) in
      record {
        found = outcome f (outcome (u p) y.found z.found) n2.found;
        serves = record {
          any = of_any;
          ip = suits-any _ of_any;
          other = suits-any _ of_any;
          first_fragment = record {
            found = _;
            answers = answers-kept first _ p unfragmented.extends tested.here.1 of_first;
            right = λ is. sym (ap (λ v. outcome v (outcome (u p) y.found z.found) n2.found) (and-right number f is));
          };
        };
        right = λ holds.
            outcome-unfragmented f (u p) m n y.found z.found n2.found
            (λ is. y.right (both-yes number f (shown p holds) is)) (λ is. z.right (both-yes number f (shown p holds) is))
            (n2.right (and-left (is_type 0x0800 p) _ (shown p holds)))
            ∙ ap (λ v. outcome v m n) (same p holds);
      };
}

-- ports of a packet whose protocol is known
decided-equal : (b n : ℕ) → decided (b == n) ≡ Yes → b ≡ n
decided-equal b n is = by_test (b == n) refl is
  where
    by_test : (c : Bool) → (b == n) ≡ c → decided c ≡ Yes → b ≡ n
    by_test true same is' = equal-true b n same
    by_test false same is' = absurd cc

only-first : (x : Verdict) → or_else (or_else x No) No ≡ x
only-first Yes = refl
only-first No = refl
only-first Abort = refl

only-second : (x : Verdict) → or_else (or_else No x) No ≡ x
only-second Yes = refl
only-second No = refl
only-second Abort = refl

-- of three forms the one of the packet's number counts
abbrev three_forms : Verdict → Option ℕ → Verdict → Verdict → Verdict
three_forms i v f d =
    or_else
    (or_else (and_then (and_then (and_then i (check (λ b. b == 6) v)) f) d) (and_then (and_then (and_then i (check (λ b. b == 17) v)) f) d))
    (and_then (and_then (and_then i (check (λ b. b == 132) v)) f) d)

one-form : (transport : Transport) (i : Verdict) (v : Option ℕ) (f d : Verdict) → and_then i (check (λ b. b == protocol_number transport) v) ≡ Yes → and_then f d ≡ three_forms i v f d
one-form transport No v f d is = absurd cc
one-form transport Abort v f d is = absurd cc
one-form transport Yes None f d is = absurd cc
one-form Tcp Yes (Some b) f d is = let same = decided-equal b 6 is in rw same (sym (only-first (and_then f d)))
one-form Udp Yes (Some b) f d is = let same = decided-equal b 17 is in rw same (sym (only-second (and_then f d)))
one-form Sctp Yes (Some b) f d is = let same = decided-equal b 132 is in rw same refl

pub ports-known : (transport : Transport) (asked : Option Transport) (t : Test) (p : Packet) → is_protocol (protocol_number transport) p ≡ Yes
    → (asked ≡ None) ⊎ (asked ≡ Some transport) → and_then (is_unfragmented p) (t p) ≡ of_transport asked t p
ports-known transport asked t p is (inl none) =
    one-form transport (is_type 0x0800 p) (byte 23 p) (is_unfragmented p) (t p) is ∙ sym (ap (λ x. of_transport x t p) none)
ports-known transport asked t p is (inr same) =
    sym (ap (λ v. and_then (and_then v (is_unfragmented p)) (t p)) is) ∙ sym (ap (λ x. of_transport x t p) same)

-- a host or a net of a packet that is known to be of IPv4
one-net : (v : Option ℕ) (x y : Verdict) → check (λ n. n == 0x0800) v ≡ Yes
    → x ≡ or_else (or_else (and_then (check (λ n. n == 0x0800) v) x) (and_then (check (λ n. n == 0x0806) v) y)) (and_then (check (λ n. n == 0x8035) v) y)
one-net None x y is = absurd cc
one-net (Some n) x y is = let same = decided-equal n 0x0800 is in rw same (sym (only-first x))

pub net-known : (network : Option Network) (direction : Direction) (address mask : ℕ) (p : Packet) → is_type 0x0800 p ≡ Yes → (network ≡ None) ⊎ (network ≡ Some networks.Ip)
    → by_direction direction (has_address address mask 26) (has_address address mask 30) p ≡ in_any_net network direction address mask p
net-known network direction address mask p is (inl none) =
    one-net (half 12 p) (by_direction direction (has_address address mask 26) (has_address address mask 30) p) (by_direction direction (has_address address mask 28) (has_address address mask 38) p) is
    ∙ sym (ap (λ x. in_any_net x direction address mask p) none)
net-known network direction address mask p is (inr same) =
    sym (ap (λ v. and_then v (by_direction direction (has_address address mask 26) (has_address address mask 30) p)) is)
    ∙ sym (ap (λ x. in_any_net x direction address mask p) same)

pub nets-known : (t u : Test) (p : Packet) → is_type 0x0800 p ≡ Yes → and_test (is_type 0x0800) t p ≡ of_any_type t u p
nets-known t u p is = ap (λ v. and_then v (t p)) is ∙ one-net (half 12 p) (t p) (u p) is

-- IPv4 with a protocol number, where the packet is known to be of IPv4
pub protocol-known : (n : ℕ) (p : Packet) → is_type 0x0800 p ≡ Yes → check (λ b. b == n) (byte 23 p) ≡ is_protocol n p
protocol-known n p is = sym (ap (λ v. and_then v (check (λ b. b == n) (byte 23 p))) is)

-- the same where it is known to be a first fragment
pub ports-after-first : (transport : Transport) (asked : Option Transport) (t : Test) (p : Packet) → is_first_fragment_of (protocol_number transport) p ≡ Yes
    → (asked ≡ None) ⊎ (asked ≡ Some transport) → t p ≡ of_transport asked t p
ports-after-first transport asked t p is which =
    let number = is_protocol (protocol_number transport) p in
    sym (ap (λ v. and_then v (t p)) (and-right number (is_unfragmented p) is)) ∙ ports-known transport asked t p (and-left number (is_unfragmented p) is) which

-- the ports of a protocol, or of any
pub of-transport-is : (asked : Option Transport) (direction : Direction) (low high : ℕ) (p : Packet)
    → of_transport asked (by_direction direction (has_port low high 0) (has_port low high 2)) p ≡ has_any_ports asked direction low high p
of-transport-is None direction low high p = refl
of-transport-is (Some transport) direction low high p = refl

-- the same test in other words
pub given-same : {k : ℕ} (known : PacketFacts) (t u : Test) {targets : Targets} {entry : Entry} {a b : List Insn} → ((p : Packet) → shows known p ≡ Yes → t p ≡ u p)
    → DecidesGiven known k t targets entry a b → DecidesGiven known k u targets entry a b
given-same known t u same first = record {
  extends = first.extends;
  here = first.here;
  decides = λ p m n bytes yes' no'.
      let found = first.decides p m n bytes yes' no' in
      record { found = found.found; serves = found.serves; right = λ holds. found.right holds ∙ ap (λ v. outcome v m n) (same p holds) };
}
