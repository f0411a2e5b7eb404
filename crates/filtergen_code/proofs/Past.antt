-- First fragments of one protocol go past a list of ports of another one.
use Rattle.std.proofs.Common.{◌≡◌, ◌≢◌, ℕ, ◌==◌, ◌⊎◌, inl, inr, Bool, true, false, List, Option, Some, None, refl, sym, ap, ◌∙◌, arith}
use Rattle.std.proofs.lemmas.Bool.Decides.{nat_tests}
use Rattle.bpfvm.specs.declared.insn.Insn.{Insn}
use Rattle.filter_tree.specs.declared.tree.Transport.{Transport}
use Rattle.filtergen_code.specs.declared.entries.Entry.{Entry}
use Rattle.filtergen_code.specs.declared.entries.Targets.{Targets}
use Rattle.filter_meaning.specs.declared.verdict.Verdict.{Verdict}
use Rattle.filter_meaning.specs.declared.verdict.Verdict.TheVariants.{Yes, No, Abort}
use Rattle.filter_meaning.specs.Meaning.{Packet, Test, and_then, check, decided, byte, is_type, is_protocol, is_first_fragment_of, protocol_number}
use Rattle.filtergen_code.specs.Emission.{outcome}
use Rattle.filtergen_code.specs.Parts.{of_transport}
use Rattle.filtergen_code.specs.Remaining.{is_unfragmented}
use Rattle.filtergen_code.specs.Entries.{is_first_fragment, AreTargets, AreOther, with_other_protocol, DecidesBy}
use Rattle.filtergen_code.proofs.Runs.{answers-kept}
use Rattle.filtergen_code.proofs.Leading.{place-kept}

yes-both : (v w : Verdict) → and_then v w ≡ Yes → (v ≡ Yes) × (w ≡ Yes)
yes-both Yes w is = (refl, is)
yes-both No w is = absurd cc
yes-both Abort w is = absurd cc

other-equal : (b n m : ℕ) → n ≢ m → decided (b == m) ≡ Yes → decided (b == n) ≡ No
other-equal b n m other is = by_test (b == m) refl is
  where
    by_test : (c : Bool) → (b == m) ≡ c → decided c ≡ Yes → decided (b == n) ≡ No
    by_test true at known = let none : (b == n) ≡ false = grind (arith, nat_tests) in ap decided none
    by_test false at known = absurd cc

other-number : (n m : ℕ) (v : Option ℕ) → n ≢ m → check (λ b. b == m) v ≡ Yes → check (λ b. b == n) v ≡ No
other-number n m None other is = absurd cc
other-number n m (Some b) other is = other-equal b n m other is

other-fragment : (n m : ℕ) (p : Packet) → n ≢ m → is_first_fragment_of m p ≡ Yes → is_first_fragment_of n p ≡ No
other-fragment n m p other is =
    let protocol = (yes-both (is_protocol m p) (is_unfragmented p) is).0 in
    let both = yes-both (is_type 0x0800 p) (check (λ b. b == m) (byte 23 p)) protocol in
    ap (λ v. and_then (and_then v (check (λ b. b == n) (byte 23 p))) (is_unfragmented p)) both.0
    ∙ ap (λ v. and_then v (is_unfragmented p)) (other-number n m (byte 23 p) other both.1)

decides-other : {most : ℕ} (t : Test) (asked other : Option Transport) (targets : Targets) {entry : Entry} {a b : List Insn} → AreOther asked other → targets.no.transport ≡ other → AreTargets a targets
    → DecidesBy most (of_transport asked t) targets entry a b → DecidesBy most (of_transport asked t) targets (with_other_protocol entry targets.no) a b
decides-other t None other targets are-other is are first = absurd are-other
decides-other t (Some own) None targets are-other is are first = absurd are-other
decides-other t (Some own) (Some other) targets are-other is are first = record {
  extends = first.extends;
  here = record { any = first.here.any; ip = first.here.ip; other = first.here.other; first_fragment = place-kept targets.no.first_fragment first.extends are.1.first_fragment };
  decides = λ p m n bytes yes' no'.
      let before = first.decides p m n bytes yes' no' in
      record {
        any = before.any;
        ip = before.ip;
        other = before.other;
        first_fragment = record {
          found = no'.first_fragment.found;
          answers = answers-kept targets.no.first_fragment _ p first.extends are.1.first_fragment.1 no'.first_fragment.answers;
          right = λ known.
              no'.first_fragment.right known
              ∙ sym (ap (λ v. outcome (and_then v (t p)) m n)
              (other-fragment (protocol_number own) (protocol_number other) p are-other (sym (ap (λ x. is_first_fragment x p) is) ∙ known)));
        };
      };
}

pub decides-past : {most : ℕ} (t : Test) (asked : Option Transport) (targets : Targets) {entry past : Entry} {a b : List Insn} → (past ≡ entry) ⊎ (AreOther asked targets.no.transport × (past ≡ with_other_protocol entry targets.no))
    → AreTargets a targets → DecidesBy most (of_transport asked t) targets entry a b → DecidesBy most (of_transport asked t) targets past a b
decides-past t asked targets (inl is) are first = rw is first
decides-past t asked targets (inr (other, is)) are first = rw is (decides-other t asked targets.no.transport targets other refl are first)
