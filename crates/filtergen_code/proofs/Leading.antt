-- Code that goes on by what is known of the packet.
use Rattle.std.proofs.Common.{◌≡◌, ℕ, ◌+◌, ◌≤◌, ◌⊎◌, inl, inr, ◌==◌, Bool, true, false, List, length, Option, Some, None, refl, sym, ap, ◌∙◌, arith}
use Rattle.bpfvm.specs.declared.insn.Insn.{Insn}
use Rattle.filter_tree.specs.declared.tree.Transport.{Transport}
use Rattle.filter_tree.specs.declared.tree.Transport.TheVariants.{Tcp, Udp, Sctp}
use Rattle.filtergen_code.specs.declared.code.Exits.{Exits}
use Rattle.filtergen_code.specs.declared.entries.Entry.{Entry}
use Rattle.filtergen_code.specs.declared.entries.Targets.{Targets}
use Rattle.filter_meaning.specs.declared.verdict.Verdict.{Verdict}
use Rattle.filter_meaning.specs.declared.verdict.Verdict.TheVariants.{Yes, No, Abort}
use Rattle.filter_meaning.specs.Meaning.{Packet, HasBytes, Test, and_then, or_else, and_test, or_test, not_test, check, decided, byte, is_type, protocol_number}
use Rattle.filtergen_code.specs.Emission.{IsPlace, Answers, Extends, outcome, IsRelay, Decides}
use Rattle.filtergen_code.specs.Remaining.{is_unfragmented}
use Rattle.filtergen_code.specs.Parts.{has_port_number, is_any_first}
use Rattle.filtergen_code.specs.Entries.{is_first_fragment, Suits, Serves, ServesKnown, IsEntry, AreTargets, for_answer, Relays, RelaysBoth, DecidesBy, IsFor}
use Rattle.filtergen_code.proofs.Runs.{extends-both, extends-more, answers-kept}
use Rattle.filtergen_code.proofs.Deciding.{outcome-both, outcome-either, outcome-opposite, answers-same}

-- what serves for any packet serves where something is known
pub suits-any : {code : List Insn} {place n : ℕ} {p : Packet} (X : Type 0) → Answers code place p n → Suits code place p n X
suits-any X before = record { found = _; answers = before; right = λ known. refl }

suits-kept : {k : ℕ} (place n : ℕ) (p : Packet) (X : Type 0) {a b : List Insn} → Extends k a b → place ≤ length a → Suits a place p n X → Suits b place p n X
suits-kept place n p X extends within before = record { found = before.found; answers = answers-kept place before.found p extends within before.answers; right = before.right }

suits-same : {code : List Insn} {place m n : ℕ} {p : Packet} (X : Type 0) → m ≡ n → Suits code place p m X → Suits code place p n X
suits-same X same before = record { found = before.found; answers = before.answers; right = λ known. before.right known ∙ same }

pub serves-any : (code : List Insn) (place n : ℕ) (p : Packet) → Answers code place p n → Serves code (record { any = place; ip = place; other = place; first_fragment = place; transport = None }) p n
serves-any code place n p before = record { any = before; ip = suits-any _ before; other = suits-any _ before; first_fragment = suits-any _ before }

pub serves-kept : {k : ℕ} (entry : Entry) (p : Packet) (n : ℕ) {a b : List Insn} → IsEntry a entry → Extends k a b → Serves a entry p n → Serves b entry p n
serves-kept entry p n here extends before = record {
  any = answers-kept entry.any n p extends here.any.1 before.any;
  ip = suits-kept entry.ip n p _ extends here.ip.1 before.ip;
  other = suits-kept entry.other n p _ extends here.other.1 before.other;
  first_fragment = suits-kept entry.first_fragment n p _ extends here.first_fragment.1 before.first_fragment;
}

serves-same : (code : List Insn) (entry : Entry) (p : Packet) (m n : ℕ) → m ≡ n → Serves code entry p m → Serves code entry p n
serves-same code entry p m n same before = record {
  any = answers-same code entry.any m n p same before.any;
  ip = suits-same _ same before.ip;
  other = suits-same _ same before.other;
  first_fragment = suits-same _ same before.first_fragment;
}

pub place-kept : {k : ℕ} (place : ℕ) {a b : List Insn} → Extends k a b → IsPlace a place → IsPlace b place
place-kept place extends here = (here.0, omega (arith, here.1, extends.longer))

pub entry-kept : {k : ℕ} (entry : Entry) {a b : List Insn} → Extends k a b → IsEntry a entry → IsEntry b entry
entry-kept entry extends here = record {
  any = place-kept entry.any extends here.any;
  ip = place-kept entry.ip extends here.ip;
  other = place-kept entry.other extends here.other;
  first_fragment = place-kept entry.first_fragment extends here.first_fragment;
}

-- ways lead on as they did, after what is put in front
pub relays-later : {k : ℕ} {entry relayed : Entry} {a b c : List Insn} → Relays entry relayed a b → Extends k b c → Relays entry relayed a c
relays-later {k} {entry} {relayed} first extends = record {
  here = entry-kept relayed extends first.here;
  serves = λ p n before. serves-kept relayed p n first.here extends (first.serves p n before);
}

pub relays-after : {k : ℕ} {entry relayed : Entry} {a b c : List Insn} → IsEntry a entry → Extends k a b → Relays entry relayed b c → Relays entry relayed a c
relays-after {k} {entry} here extends later = record { here = later.here; serves = λ p n before. later.serves p n (serves-kept entry p n here extends before) }

pub relays-all-later : {k : ℕ} {targets relayed : Targets} {a b c : List Insn} → RelaysBoth targets relayed a b → Extends k b c → RelaysBoth targets relayed a c
relays-all-later first extends = record { yes = relays-later first.yes extends; no = relays-later first.no extends }

pub relays-not : {targets relayed : Targets} {a b : List Insn} → RelaysBoth (record { yes = targets.no; no = targets.yes }) relayed a b → RelaysBoth targets (record { yes = relayed.no; no = relayed.yes }) a b
relays-not relays = record { yes = relays.no; no = relays.yes }

relays-on : {entry second first : Entry} {a b c : List Insn} → Relays entry second a b → Relays second first b c → Relays entry first a c
relays-on earlier later = record { here = later.here; serves = λ p n before. later.serves p n (earlier.serves p n before) }

-- both renew the ways, the one after the other
pub relays-both : {l : ℕ} {e : Entry} {targets second first : Targets} {a b c : List Insn} → Extends l b c → RelaysBoth targets second a b → RelaysBoth (record { yes = e; no = second.no }) first b c
    → RelaysBoth targets (record { yes = second.yes; no = first.no }) a c
relays-both extends before after = record { yes = relays-later before.yes extends; no = relays-on before.no after.no }

pub relays-either : {l : ℕ} {e : Entry} {targets second first : Targets} {a b c : List Insn} → Extends l b c → RelaysBoth targets second a b → RelaysBoth (record { yes = second.yes; no = e }) first b c
    → RelaysBoth targets (record { yes = first.yes; no = second.no }) a c
relays-either extends before after = record { yes = relays-on before.yes after.yes; no = relays-later before.no extends }

-- a place in reach, or the one for any packet
reached-place : (code : List Insn) (found place any : ℕ) → (found ≡ place) ⊎ (found ≡ any) → IsPlace code place → IsPlace code any → IsPlace code found
reached-place code found place any (inl is) here there = rw is here
reached-place code found place any (inr is) here there = rw is there

reached-suits : {code : List Insn} (found place any n : ℕ) (p : Packet) (X : Type 0) → (found ≡ place) ⊎ (found ≡ any) → Suits code place p n X → Answers code any p n → Suits code found p n X
reached-suits found place any n p X (inl is) before other = rw is before
reached-suits found place any n p X (inr is) before other = rw is (suits-any X other)

pub relays-near : (entry : Entry) (near ip other first : ℕ) (a b : List Insn) → IsEntry a entry → IsRelay entry.any 255 near a b
    → (ip ≡ entry.ip) ⊎ (ip ≡ near) → (other ≡ entry.other) ⊎ (other ≡ near) → (first ≡ entry.first_fragment) ⊎ (first ≡ near)
    → Relays entry (record { any = near; ip = ip; other = other; first_fragment = first; transport = entry.transport }) a b
relays-near entry near ip other first a b here nears of_ip of_other of_first = record {
  here = record {
    any = nears.here;
    ip = reached-place b ip entry.ip near of_ip (place-kept entry.ip nears.extends here.ip) nears.here;
    other = reached-place b other entry.other near of_other (place-kept entry.other nears.extends here.other) nears.here;
    first_fragment = reached-place b first entry.first_fragment near of_first (place-kept entry.first_fragment nears.extends here.first_fragment) nears.here;
  };
  serves = λ p n before.
      let any' : Answers b near p n = record { always = λ r cells. nears.leads p r ∙ before.any.always r cells } in
      record {
        any = any';
        ip = reached-suits ip entry.ip near n p _ of_ip (suits-kept entry.ip n p _ nears.extends here.ip.1 before.ip) any';
        other = reached-suits other entry.other near n p _ of_other (suits-kept entry.other n p _ nears.extends here.other.1 before.other) any';
        first_fragment = reached-suits first entry.first_fragment near n p _ of_first (suits-kept entry.first_fragment n p _ nears.extends here.first_fragment.1 before.first_fragment) any';
      };
}

-- a test that does not look at what is known
pub decides_any : {k e : ℕ} {t : Test} (targets : Targets) {a b : List Insn} → Decides k t (record { yes = targets.yes.any; no = targets.no.any }) e a b
    → DecidesBy k t targets (record { any = e; ip = e; other = e; first_fragment = e; transport = None }) a b
decides_any {k} {e} targets {a} {b} first = record {
  extends = first.extends;
  here = record { any = first.here; ip = first.here; other = first.here; first_fragment = first.here };
  decides = λ p m n bytes yes' no'. serves-any b e _ p (first.decides p m n bytes yes'.any no'.any);
}

-- the same test in other words
pub decides-by-same : {k : ℕ} (t u : Test) {targets : Targets} {entry : Entry} {a b : List Insn} → ((p : Packet) → HasBytes p → t p ≡ u p) → DecidesBy k t targets entry a b → DecidesBy k u targets entry a b
decides-by-same t u {targets} {entry} {a} {b} same first = record {
  extends = first.extends;
  here = first.here;
  decides = λ p m n bytes yes' no'. serves-same b entry p _ _ (ap (λ v. outcome v m n) (same p bytes)) (first.decides p m n bytes yes' no');
}

pub decides-by-more : {k : ℕ} (l : ℕ) {t : Test} {targets : Targets} {entry : Entry} {a b : List Insn} → k ≤ l → DecidesBy k t targets entry a b → DecidesBy l t targets entry a b
decides-by-more l more first = record { extends = extends-more l more first.extends; here = first.here; decides = first.decides }

-- a test by renewed ways
pub decides-relayed : {k l : ℕ} {t : Test} {targets relayed : Targets} {entry : Entry} {a b c : List Insn} → Extends k a b → RelaysBoth targets relayed a b → DecidesBy l t relayed entry b c → DecidesBy (k + l) t targets entry a c
decides-relayed extends relays first = record {
  extends = extends-both extends first.extends;
  here = first.here;
  decides = λ p m n bytes yes' no'. first.decides p m n bytes (relays.yes.serves p m yes') (relays.no.serves p n no');
}

-- the second test is there first; the first one goes on to it, or by the ways as the second one renewed them
pub decides-both-relayed : {k l : ℕ} {t u : Test} {targets relayed : Targets} {second first : Entry} {a b c : List Insn} → RelaysBoth targets relayed a b
    → DecidesBy k u targets second a b → DecidesBy l t (record { yes = second; no = relayed.no }) first b c → DecidesBy (k + l) (and_test t u) targets first a c
decides-both-relayed {k} {l} {t} {u} {targets} {relayed} {second} {first} {a} {b} {c} relays later before = record {
  extends = extends-both later.extends before.extends;
  here = before.here;
  decides = λ p m n bytes yes' no'.
      serves-same c first p _ _ (outcome-both (t p) (u p) m n)
      (before.decides p (outcome (u p) m n) n bytes (later.decides p m n bytes yes' no') (relays.no.serves p n no'));
}

pub decides-either-relayed : {k l : ℕ} {t u : Test} {targets relayed : Targets} {second first : Entry} {a b c : List Insn} → RelaysBoth targets relayed a b
    → DecidesBy k u targets second a b → DecidesBy l t (record { yes = relayed.yes; no = second }) first b c → DecidesBy (k + l) (or_test t u) targets first a c
decides-either-relayed {k} {l} {t} {u} {targets} {relayed} {second} {first} {a} {b} {c} relays later before = record {
  extends = extends-both later.extends before.extends;
  here = before.here;
  decides = λ p m n bytes yes' no'.
      serves-same c first p _ _ (outcome-either (t p) (u p) m n)
      (before.decides p m (outcome (u p) m n) bytes (relays.yes.serves p m yes') (later.decides p m n bytes yes' no'));
}

pub decides-not : {k : ℕ} {t : Test} {targets : Targets} {entry : Entry} {a b : List Insn} → DecidesBy k t (record { yes = targets.no; no = targets.yes }) entry a b → DecidesBy k (not_test t) targets entry a b
decides-not {k} {t} {targets} {entry} {a} {b} first = record {
  extends = first.extends;
  here = first.here;
  decides = λ p m n bytes yes' no'. serves-same b entry p _ _ (outcome-opposite (t p) m n) (first.decides p n m bytes no' yes');
}

-- the outcome of a test after that of IPv4, whose exits are for IPv4 and for the other types
outcome-guarded : (v w : Verdict) (m n m' n' n'' : ℕ) → (v ≡ Yes → m' ≡ m) → (v ≡ Yes → n' ≡ n) → (v ≡ No → n'' ≡ n) → outcome v (outcome w m' n') n'' ≡ outcome (and_then v w) m n
outcome-guarded Yes w m n m' n' n'' yes' no' other = ap (λ k. outcome w k n') (yes' refl) ∙ ap (λ k. outcome w m k) (no' refl)
outcome-guarded No w m n m' n' n'' yes' no' other = other refl
outcome-guarded Abort w m n m' n' n'' yes' no' other = refl

known-inside : (v w : Verdict) (m n m' n' : ℕ) → v ≡ Yes → m' ≡ m → n' ≡ n → outcome w m' n' ≡ outcome (and_then v w) m n
known-inside Yes w m n m' n' is yes' no' = ap (λ k. outcome w k n') yes' ∙ ap (λ k. outcome w m k) no'
known-inside No w m n m' n' is yes' no' = absurd cc
known-inside Abort w m n m' n' is yes' no' = absurd cc

known-outside : (v w : Verdict) (m n n'' : ℕ) → v ≡ No → n'' ≡ n → n'' ≡ outcome (and_then v w) m n
known-outside Yes w m n n'' is same = absurd cc
known-outside No w m n n'' is same = same
known-outside Abort w m n n'' is same = absurd cc

pub and-yes : (v : Verdict) → and_then v Yes ≡ v
and-yes Yes = refl
and-yes No = refl
and-yes Abort = refl

left-yes : (v w : Verdict) → and_then v w ≡ Yes → v ≡ Yes
left-yes Yes w is = refl
left-yes No w is = absurd cc
left-yes Abort w is = absurd cc

-- a first fragment of a protocol is one of any that has ports, and one of IPv4
has-port-number : (transport : Transport) (v : Option ℕ) → check (λ b. b == protocol_number transport) v ≡ Yes
    → or_else (or_else (check (λ b. b == 6) v) (check (λ b. b == 17) v)) (check (λ b. b == 132) v) ≡ Yes
has-port-number transport None is = absurd cc
has-port-number Tcp (Some n) is = ap (λ x. or_else (or_else x (decided (n == 17))) (decided (n == 132))) is
has-port-number Udp (Some n) is = ap (λ x. or_else (or_else (decided (n == 6)) x) (decided (n == 132))) is ∙ first_of (n == 6)
  where
    first_of : (b : Bool) → or_else (or_else (decided b) Yes) (decided (n == 132)) ≡ Yes
    first_of true = refl
    first_of false = refl
has-port-number Sctp (Some n) is = ap (or_else (or_else (decided (n == 6)) (decided (n == 17)))) is ∙ first_of (n == 6) (n == 17)
  where
    first_of : (b c : Bool) → or_else (or_else (decided b) (decided c)) Yes ≡ Yes
    first_of true c = refl
    first_of false true = refl
    first_of false false = refl

all-yes : (t v w f : Verdict) → (v ≡ Yes → w ≡ Yes) → and_then (and_then t v) f ≡ Yes → and_then (and_then t w) f ≡ Yes
all-yes Yes Yes w f same is = ap (λ x. and_then x f) (same refl) ∙ is
all-yes Yes No w f same is = absurd cc
all-yes Yes Abort w f same is = absurd cc
all-yes No v w f same is = absurd cc
all-yes Abort v w f same is = absurd cc

first-of-any : (transport : Option Transport) (p : Packet) → is_first_fragment transport p ≡ Yes → is_any_first p ≡ Yes
first-of-any None p is = is
first-of-any (Some transport) p is =
    all-yes (is_type 0x0800 p) (check (λ b. b == protocol_number transport) (byte 23 p)) (has_port_number p) (is_unfragmented p) (has-port-number transport (byte 23 p)) is

pub first-ip : (transport : Option Transport) (p : Packet) → is_first_fragment transport p ≡ Yes → is_type 0x0800 p ≡ Yes
first-ip transport p is = left-yes (is_type 0x0800 p) _ (left-yes (and_test (is_type 0x0800) has_port_number p) _ (first-of-any transport p is))

-- a test after that of IPv4
pub decides-guarded : {k inner e : ℕ} {u : Test} (targets : Targets) {a b c : List Insn} → AreTargets a targets
    → Decides k u (record { yes = targets.yes.ip; no = targets.no.ip }) inner a b
    → Decides 4 (is_type 0x0800) (record { yes = inner; no = targets.no.other }) e b c
    → DecidesBy (k + 4) (and_test (is_type 0x0800) u) targets (record { any = e; ip = inner; other = targets.no.other; first_fragment = inner; transport = None }) a c
decides-guarded {k} {inner} {e} {u} targets {a} {b} {c} are second first =
    let whole = extends-both second.extends first.extends in
    let ip' = place-kept inner first.extends second.here in
    record {
      extends = whole;
      here = record { any = first.here; ip = ip'; other = place-kept targets.no.other whole are.1.other; first_fragment = ip' };
      decides = λ p m n bytes yes' no'.
          let t = is_type 0x0800 p in
          let inside = second.decides p yes'.ip.found no'.ip.found bytes yes'.ip.answers no'.ip.answers in
          let outside = answers-kept targets.no.other no'.other.found p second.extends are.1.other.1 no'.other.answers in
          let inside' = answers-kept inner _ p first.extends second.here.1 inside in
          record {
            any = answers-same c e _ _ p (outcome-guarded t (u p) m n _ _ _ yes'.ip.right no'.ip.right no'.other.right) (first.decides p _ _ bytes inside outside);
            ip = record { found = _; answers = inside'; right = λ known. known-inside t (u p) m n _ _ known (yes'.ip.right known) (no'.ip.right known) };
            other = record {
              found = no'.other.found;
              answers = answers-kept targets.no.other _ p first.extends (place-kept targets.no.other second.extends are.1.other).1 outside;
              right = λ known. known-outside t (u p) m n _ known (no'.other.right known);
            };
            first_fragment = record {
              found = _;
              answers = inside';
              right = λ known.
                  let known' = first-ip None p known in
                  known-inside t (u p) m n _ _ known' (yes'.ip.right known') (no'.ip.right known');
            };
          };
    }

-- what serves as the way of an answer that is known serves as the outcome
served : {X : Type 0} (b : Bool) (targets : Targets) (v : Verdict) {code : List Insn} (p : Packet) (m n : ℕ) → Serves code targets.yes p m → Serves code targets.no p n → (X → v ≡ decided b)
    → ServesKnown code (for_answer b targets) p (outcome v m n) X
served true targets v p m n yes' no' is = record { found = m; serves = yes'; right = λ known. sym (ap (λ u. outcome u m n) (is known)) }
served false targets v p m n yes' no' is = record { found = n; serves = no'; right = λ known. sym (ap (λ u. outcome u m n) (is known)) }

entry-by-here : (b : Bool) (targets : Targets) {code : List Insn} → AreTargets code targets → IsEntry code (for_answer b targets)
entry-by-here true targets are = are.0
entry-by-here false targets are = are.1

-- the outcome of a test after that of IPv4, of which the answer is known there
outcome-apart : (t v : Verdict) (m n x y z : ℕ) → (t ≡ Yes → x ≡ outcome v m n) → (t ≡ No → y ≡ m) → (t ≡ No → z ≡ n) → (t ≡ Abort → v ≡ Abort) → outcome t x (outcome v y z) ≡ outcome v m n
outcome-apart Yes v m n x y z is first second aborts = is refl
outcome-apart No v m n x y z is first second aborts = ap (λ k. outcome v k z) (first refl) ∙ ap (outcome v m) (second refl)
outcome-apart Abort v m n x y z is first second aborts = sym (ap (λ u. outcome u m n) (aborts refl))

-- a test whose answer is known of IPv4, and after that type the same test of any other
pub decides-apart : {k other e : ℕ} {u : Test} (by_ip : Bool) (targets : Targets) {a b c : List Insn} → AreTargets a targets
    → ((p : Packet) → is_type 0x0800 p ≡ Yes → u p ≡ decided by_ip) → ((p : Packet) → is_type 0x0800 p ≡ Abort → u p ≡ Abort)
    → Decides k u (record { yes = targets.yes.other; no = targets.no.other }) other a b
    → Decides 4 (is_type 0x0800) (record { yes = (for_answer by_ip targets).ip; no = other }) e b c
    → DecidesBy (k + 4) u targets (record { any = e; ip = (for_answer by_ip targets).ip; other = other; first_fragment = (for_answer by_ip targets).first_fragment; transport = (for_answer by_ip targets).transport }) a c
decides-apart {k} {other} {e} {u} by_ip targets {a} {b} {c} are holds aborts second first =
    let whole = extends-both second.extends first.extends in
    let w = for_answer by_ip targets in
    let here = entry-by-here by_ip targets are in
    record {
      extends = whole;
      here = record { any = first.here; ip = place-kept w.ip whole here.ip; other = place-kept other first.extends second.here; first_fragment = place-kept w.first_fragment whole here.first_fragment };
      decides = λ p m n bytes yes' no'.
          let t = is_type 0x0800 p in
          let of_ip = served by_ip targets (u p) p m n yes' no' (holds p) in
          let there = of_ip.serves.ip in
          let fragment = of_ip.serves.first_fragment in
          let outside = second.decides p yes'.other.found no'.other.found bytes yes'.other.answers no'.other.answers in
          let inside = answers-kept w.ip there.found p second.extends here.ip.1 there.answers in
          record {
            any = answers-same c e _ _ p (outcome-apart t (u p) m n _ _ _ (λ known. there.right known ∙ of_ip.right known) yes'.other.right no'.other.right (aborts p)) (first.decides p _ _ bytes inside outside);
            ip = record { found = there.found; answers = answers-kept w.ip _ p whole here.ip.1 there.answers; right = λ known. there.right known ∙ of_ip.right known };
            other = record {
              found = _;
              answers = answers-kept other _ p first.extends second.here.1 outside;
              right = λ known. ap (λ x. outcome (u p) x no'.other.found) (yes'.other.right known) ∙ ap (outcome (u p) m) (no'.other.right known);
            };
            first_fragment = record {
              found = fragment.found;
              answers = answers-kept w.first_fragment _ p whole here.first_fragment.1 fragment.answers;
              right = λ known. fragment.right known ∙ of_ip.right (first-ip w.transport p known);
            };
          };
    }

-- the same where the type is not asked for first
pub decides-known : {k e : ℕ} {u : Test} (by_ip : Bool) (targets : Targets) {a b : List Insn} → AreTargets a targets → ((p : Packet) → is_type 0x0800 p ≡ Yes → u p ≡ decided by_ip)
    → Decides k u (record { yes = targets.yes.any; no = targets.no.any }) e a b
    → DecidesBy k u targets (record { any = e; ip = (for_answer by_ip targets).ip; other = e; first_fragment = (for_answer by_ip targets).first_fragment; transport = (for_answer by_ip targets).transport }) a b
decides-known {k} {e} {u} by_ip targets {a} {b} are holds first =
    let w = for_answer by_ip targets in
    let here = entry-by-here by_ip targets are in
    record {
      extends = first.extends;
      here = record { any = first.here; ip = place-kept w.ip first.extends here.ip; other = first.here; first_fragment = place-kept w.first_fragment first.extends here.first_fragment };
      decides = λ p m n bytes yes' no'.
          let of_ip = served by_ip targets (u p) p m n yes' no' (holds p) in
          let there = of_ip.serves.ip in
          let fragment = of_ip.serves.first_fragment in
          let any' = first.decides p m n bytes yes'.any no'.any in
          record {
            any = any';
            ip = record { found = there.found; answers = answers-kept w.ip _ p first.extends here.ip.1 there.answers; right = λ known. there.right known ∙ of_ip.right known };
            other = suits-any _ any';
            first_fragment = record {
              found = fragment.found;
              answers = answers-kept w.first_fragment _ p first.extends here.first_fragment.1 fragment.answers;
              right = λ known. fragment.right known ∙ of_ip.right (first-ip w.transport p known);
            };
          };
    }

pub suits-first : {code : List Insn} {entry : Entry} {p : Packet} {n : ℕ} (place : ℕ) (transport : Option Transport) → IsFor transport place entry
    → Serves code entry p n → Suits code place p n (is_first_fragment transport p ≡ Yes)
suits-first {code} {entry} {p} place transport (inl is) before =
    rw is (record { found = before.ip.found; answers = before.ip.answers; right = λ known. before.ip.right (first-ip transport p known) })
suits-first {code} {entry} {p} place transport (inr (is, inl any)) before =
    rw is (record {
      found = before.first_fragment.found;
      answers = before.first_fragment.answers;
      right = λ known. before.first_fragment.right (ap (λ t. is_first_fragment t p) any ∙ first-of-any transport p known);
    })
suits-first {code} {entry} {p} place transport (inr (is, inr same)) before =
    rw is (record {
      found = before.first_fragment.found;
      answers = before.first_fragment.answers;
      right = λ known. before.first_fragment.right (ap (λ t. is_first_fragment t p) same ∙ known);
    })

pub first-place : (code : List Insn) (entry : Entry) (place : ℕ) (transport : Option Transport) → IsFor transport place entry → IsEntry code entry → IsPlace code place
first-place code entry place transport (inl is) here = rw is here.ip
first-place code entry place transport (inr (is, which)) here = rw is here.first_fragment

-- the outcome of a test after those of IPv4, of a protocol and of a fragment, each with exits of its own
outcome-first : (t b f w : Verdict) (m n m1 n1 n2 n3 : ℕ) → (and_then (and_then t b) f ≡ Yes → m1 ≡ m) → (and_then (and_then t b) f ≡ Yes → n1 ≡ n) → (t ≡ Yes → n2 ≡ n) → (t ≡ No → n3 ≡ n)
    → outcome t (outcome b (outcome f (outcome w m1 n1) n2) n2) n3 ≡ outcome (and_then (and_then (and_then t b) f) w) m n
outcome-first Yes Yes Yes w m n m1 n1 n2 n3 yes' no' ip other = ap (λ k. outcome w k n1) (yes' refl) ∙ ap (λ k. outcome w m k) (no' refl)
outcome-first Yes Yes No w m n m1 n1 n2 n3 yes' no' ip other = ip refl
outcome-first Yes Yes Abort w m n m1 n1 n2 n3 yes' no' ip other = refl
outcome-first Yes No f w m n m1 n1 n2 n3 yes' no' ip other = ip refl
outcome-first Yes Abort f w m n m1 n1 n2 n3 yes' no' ip other = refl
outcome-first No b f w m n m1 n1 n2 n3 yes' no' ip other = other refl
outcome-first Abort b f w m n m1 n1 n2 n3 yes' no' ip other = refl

-- the same where it is known to be of IPv4
outcome-inside : (t b f w : Verdict) (m n m1 n1 n2 : ℕ) → (and_then (and_then t b) f ≡ Yes → m1 ≡ m) → (and_then (and_then t b) f ≡ Yes → n1 ≡ n) → n2 ≡ n → t ≡ Yes
    → outcome b (outcome f (outcome w m1 n1) n2) n2 ≡ outcome (and_then (and_then (and_then t b) f) w) m n
outcome-inside Yes b f w m n m1 n1 n2 yes' no' ip is = outcome-first Yes b f w m n m1 n1 n2 n2 yes' no' (λ x. ip) (λ x. ip)
outcome-inside No b f w m n m1 n1 n2 yes' no' ip is = absurd cc
outcome-inside Abort b f w m n m1 n1 n2 yes' no' ip is = absurd cc

outside-first : (t b f w : Verdict) (m n n3 : ℕ) → t ≡ No → n3 ≡ n → n3 ≡ outcome (and_then (and_then (and_then t b) f) w) m n
outside-first Yes b f w m n n3 is same = absurd cc
outside-first No b f w m n n3 is same = same
outside-first Abort b f w m n n3 is same = absurd cc

-- IPv4, a protocol that this test finds, and no later fragment
abbrev pub first_by : Test → Test
first_by protocol = and_test (and_test (is_type 0x0800) protocol) is_unfragmented

-- a test after those of a first fragment
pub decides-first : {k l first inner ip any : ℕ} {u : Test} (transport : Option Transport) (protocol : Test) (targets : Targets) {exits : Exits} {a b c d e : List Insn} → AreTargets a targets
    → ((p : Packet) → is_first_fragment transport p ≡ first_by protocol p)
    → IsFor transport exits.yes targets.yes → IsFor transport exits.no targets.no
    → Decides k u exits first a b
    → Decides 4 is_unfragmented (record { yes = first; no = targets.no.ip }) inner b c
    → Decides l protocol (record { yes = inner; no = targets.no.ip }) ip c d
    → Decides 4 (is_type 0x0800) (record { yes = ip; no = targets.no.other }) any d e
    → DecidesBy (k + l + 8) (and_test (first_by protocol) u) targets (record { any = any; ip = ip; other = targets.no.other; first_fragment = first; transport = transport }) a e
decides-first {k} {l} {first} {inner} {ip} {any} {u} transport protocol targets {exits} {a} {b} {c} {d} {e} are which of_yes of_no tested unfragmented numbered typed =
    let to_c = extends-both tested.extends unfragmented.extends in
    let to_d = extends-both to_c numbered.extends in
    let whole = extends-both to_d typed.extends in
    let later = extends-both unfragmented.extends (extends-both numbered.extends typed.extends) in
    let ip' = are.1.ip in
    let other' = are.1.other in
    record {
      extends = extends-more (k + l + 8) (omega arith) whole;
      here = record {
        any = typed.here;
        ip = place-kept ip typed.extends numbered.here;
        other = place-kept targets.no.other whole other';
        first_fragment = place-kept first later tested.here;
      };
      decides = λ p m n bytes yes' no'.
          let t = is_type 0x0800 p in
          let v = protocol p in
          let f = is_unfragmented p in
          let y = suits-first exits.yes transport of_yes yes' in
          let z = suits-first exits.no transport of_no no' in
          let n2 = no'.ip in
          let n3 = no'.other in
          let of_first = tested.decides p y.found z.found bytes y.answers z.answers in
          let of_inner = unfragmented.decides p _ _ bytes of_first (answers-kept targets.no.ip n2.found p tested.extends ip'.1 n2.answers) in
          let of_ip = numbered.decides p _ _ bytes of_inner (answers-kept targets.no.ip n2.found p to_c ip'.1 n2.answers) in
          let of_any = typed.decides p _ _ bytes of_ip (answers-kept targets.no.other n3.found p to_d other'.1 n3.answers) in
          let y' : first_by protocol p ≡ Yes → y.found ≡ m = λ known. y.right (which p ∙ known) in
          let z' : first_by protocol p ≡ Yes → z.found ≡ n = λ known. z.right (which p ∙ known) in
          record {
            any = answers-same e any _ _ p (outcome-first t v f (u p) m n _ _ _ _ y' z' n2.right n3.right) of_any;
            ip = record {
              found = _;
              answers = answers-kept ip _ p typed.extends numbered.here.1 of_ip;
              right = λ known. outcome-inside t v f (u p) m n _ _ _ y' z' (n2.right known) known;
            };
            other = record {
              found = n3.found;
              answers = answers-kept targets.no.other n3.found p whole other'.1 n3.answers;
              right = λ known. outside-first t v f (u p) m n _ known (n3.right known);
            };
            first_fragment = record {
              found = _;
              answers = answers-kept first _ p later tested.here.1 of_first;
              right = λ known. known-inside (first_by protocol p) (u p) m n _ _ (sym (which p) ∙ known) (y.right known) (z.right known);
            };
          };
    }
