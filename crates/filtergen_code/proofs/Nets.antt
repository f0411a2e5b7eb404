-- Hosts and nets of any protocol: one load of the type, and three comparisons.
use Rattle.std.proofs.Common.{◌≡◌, ℕ, suc, ◌+◌, ◌==◌, Bool, true, false, List, ◌∷◌, length, Option, Some, None, refl, sym, ap, ◌∙◌, arith, if◌then◌else◌}
use Rattle.std.proofs.lemmas.Bool.Decides.{nat_tests}
use Rattle.bpfvm.specs.declared.insn.Insn.{Insn}
use Rattle.bpfvm.specs.Codes.{Accumulator}
use Rattle.bpfvm.specs.Machine.{Registers, with_value, loaded}
use Rattle.filtergen_code.specs.declared.code.Exits.{Exits}
use Rattle.filtergen_code.specs.declared.insns.Jump.TheVariants as jumps
use Rattle.filtergen_code.specs.declared.insns.Operand.TheVariants as operands
use Rattle.filtergen_code.specs.declared.insns.Field.TheVariants as fields
use Rattle.filter_meaning.specs.declared.verdict.Verdict.{Verdict}
use Rattle.filter_meaning.specs.declared.verdict.Verdict.TheVariants.{Yes, No}
use Rattle.filtergen_code.specs.declared.entries.Targets.{Targets}
use Rattle.filter_meaning.specs.Meaning.{Packet, Test, check, decided, half, is_type}
use Rattle.filtergen_code.specs.Insns.{load_insn}
use Rattle.filtergen_code.specs.Emission.{HasCells, run_from, AreExits, Answers, Extends, outcome, condition, Chooses, any_registers, Follows, Decides}
use Rattle.filtergen_code.specs.Entries.{AreTargets, DecidesBy}
use Rattle.filtergen_facts.specs.Lists.{of_any_type}
use Rattle.filtergen_code.proofs.Runs.{after, answer-first, answers-kept, extends-both, extends-one, front-place, load-effect}
use Rattle.filtergen_code.proofs.Deciding.{decides-kept, decides-later}
use Rattle.filtergen_code.proofs.Following.{one_of, follows-no, follows-kept, follows-more, follows-decided, follows-chosen}
use Rattle.filtergen_code.proofs.Leading.{place-kept, first-ip, decides-by-more}
use Rattle.filtergen_code.proofs.Sharing.{chosen_by, by_number}

apart : (n : ℕ) → (n == 0x0800) ≡ true → ((n == 0x0806) ≡ false) × ((n == 0x8035) ≡ false)
apart n is = (grind (arith, nat_tests), grind (arith, nat_tests))

apart' : (n : ℕ) → (n == 0x0806) ≡ true → (n == 0x8035) ≡ false
apart' n is = grind (arith, nat_tests)

-- what is tested of another type than that of IPv4, which is in the accumulator
abbrev pub by_other : Test → Registers → Test
by_other u r = one_of (r.accumulator == 0x0806) u (one_of (r.accumulator == 0x8035) u (λ p. No))

-- the whole test, by the type
abbrev pub by_type : Test → Test → Packet → Option ℕ → Verdict
by_type t u p v = chosen_by v (λ n. n == 0x0800) (λ n. n == 0x0806) (λ n. n == 0x8035) (t p) (u p)

pub by-type : (t u : Test) (p : Packet) → by_type t u p (half 12 p) ≡ of_any_type t u p
by-type t u p = by_number (half 12 p) (λ n. n == 0x0800) (λ n. n == 0x0806) (λ n. n == 0x8035) (t p) (u p) apart apart'

one-of-is : (b c : Bool) (t : Test) (p : Packet) → one_of b t (one_of c t (λ q. No)) p ≡ (if b then t p else (if c then t p else No))
one-of-is true c t p = refl
one-of-is false true t p = refl
one-of-is false false t p = refl

-- where it is known to be of IPv4
of-ip : (t u : Test) (p : Packet) (v : Option ℕ) → check (λ n. n == 0x0800) v ≡ Yes → t p ≡ by_type t u p v
of-ip t u p None known = absurd cc
of-ip t u p (Some n) known = by_test (n == 0x0800) known
  where
    by_test : (b : Bool) → decided b ≡ Yes → t p ≡ (if b then t p else (if n == 0x0806 then u p else (if n == 0x8035 then u p else No)))
    by_test true is = refl
    by_test false is = absurd cc

-- the load of the type and the comparison with that of IPv4, in front of the test of IPv4 and of those of the other types
decides-by-type : {g h f n : ℕ} (t u : Test) (targets : Targets) {a b c : List Insn} → Decides g t (record { yes = targets.yes.ip; no = targets.no.ip }) f a b
    → Follows any_registers h (by_other u) (record { yes = targets.yes.other; no = targets.no.other }) n a b
    → Chooses 3 (condition jumps.Equal (operands.Constant 0x0800)) (record { yes = f; no = n }) b c
    → DecidesBy (g + 4) (of_any_type t u) targets (record { any = suc (length c); ip = f; other = suc (length c); first_fragment = f; transport = None }) a (load_insn (fields.Half 12) ∷ c)
decides-by-type {g} {h} {f} {n} t u targets {a} {b} {c} ip other-test ip-jump =
    let load = load_insn (fields.Half 12) in
    let later : Extends 4 b (load ∷ c) = extends-both ip-jump.extends (extends-one load c) in
    let here = place-kept f later ip.here in
    record {
      extends = extends-both ip.extends later;
      here = record { any = (omega arith, omega arith); ip = here; other = (omega arith, omega arith); first_fragment = here };
      decides = λ p k l bytes yes' no'.
          let inside = ip.decides p yes'.ip.found no'.ip.found bytes yes'.ip.answers no'.ip.answers in
          let inside' = answers-kept f _ p later ip.here.1 inside in
          let outside : (r : Registers) → HasCells r → run_from b n p r ≡ outcome (by_other u r p) yes'.other.found no'.other.found =
          λ r cells. other-test.follows p _ _ r bytes cells (λ s kept like. yes'.other.answers.always s kept) (λ s kept like. no'.other.answers.always s kept) in
          let right : is_type 0x0800 p ≡ Yes → outcome (t p) yes'.ip.found no'.ip.found ≡ outcome (of_any_type t u p) k l =
          λ known.
          ap (λ v. outcome v yes'.ip.found no'.ip.found) (of-ip t u p (half 12 p) known ∙ by-type t u p)
          ∙ ap (λ x. outcome (of_any_type t u p) x no'.ip.found) (yes'.ip.right known)
          ∙ ap (λ x. outcome (of_any_type t u p) k x) (no'.ip.right known) in
          let any' : Answers (load ∷ c) (suc (length c)) p (outcome (of_any_type t u p) k l) = record {
            always = λ r cells.
                front-place (load ∷ c) p r ∙ answer-first load c p r _ (load-effect (fields.Half 12) p r)
                ∙ by_value p k l _ _ _ r cells (half 12 p) refl inside outside right yes'.other.right no'.other.right;
          } in
          record {
            any = any';
            ip = record { found = _; answers = inside'; right = right };
            other = record { found = _; answers = any'; right = λ known. refl };
            first_fragment = record { found = _; answers = inside'; right = λ known. right (first-ip None p known) };
          };
    }
  where
    by_test : (p : Packet) (k l k' l' : ℕ) (r : Registers) (b : Bool) (m1 m2 found : ℕ)
        → (decided b ≡ Yes → found ≡ outcome (of_any_type t u p) k l)
        → m1 ≡ found → m2 ≡ outcome (by_other u r p) k' l' → (decided b ≡ No → k' ≡ k) → (decided b ≡ No → l' ≡ l)
        → (decided b ≡ No → by_other u r p ≡ of_any_type t u p)
        → (if b then m1 else m2) ≡ outcome (of_any_type t u p) k l
    by_test p k l k' l' r true m1 m2 found right first second yes' no' same = first ∙ right refl
    by_test p k l k' l' r false m1 m2 found right first second yes' no' same =
        second
        ∙ ap (λ v. outcome v k' l') (same refl)
        ∙ ap (λ x. outcome (of_any_type t u p) x l') (yes' refl)
        ∙ ap (λ x. outcome (of_any_type t u p) k x) (no' refl)

    behind_no : (b : Bool) (v w : Verdict) → decided b ≡ No → w ≡ (if b then v else w)
    behind_no true v w is = absurd cc
    behind_no false v w is = refl

    by_value : (p : Packet) (k l k' l' found : ℕ) (r : Registers) → HasCells r → (v : Option ℕ) → half 12 p ≡ v
        → Answers b f p found → ((s : Registers) → HasCells s → run_from b n p s ≡ outcome (by_other u s p) k' l')
        → (is_type 0x0800 p ≡ Yes → found ≡ outcome (of_any_type t u p) k l) → (is_type 0x0800 p ≡ No → k' ≡ k) → (is_type 0x0800 p ≡ No → l' ≡ l)
        → after c p (loaded Accumulator r v) ≡ outcome (of_any_type t u p) k l
    by_value p k l k' l' found r cells None is inside outside right yes' no' =
        sym (ap (λ v. outcome v k l) (sym (by-type t u p) ∙ ap (by_type t u p) is))
    by_value p k l k' l' found r cells (Some x) is inside outside right yes' no' =
        let s = with_value Accumulator x r in
        let typed : is_type 0x0800 p ≡ decided (x == 0x0800) = ap (check (λ n'. n' == 0x0800)) is in
        let whole : by_type t u p (Some x) ≡ of_any_type t u p = sym (ap (by_type t u p) is) ∙ by-type t u p in
        ip-jump.chooses p s
        ∙ by_test p k l k' l' s (x == 0x0800) _ _ found (λ known. right (typed ∙ known)) (inside.always s cells)
        (outside s cells)
        (λ known. yes' (typed ∙ known)) (λ known. no' (typed ∙ known))
        (λ known. one-of-is (x == 0x0806) (x == 0x8035) u p ∙ behind_no (x == 0x0800) (t p) _ known ∙ whole)

-- the comparisons with the types of ARP and RARP, in front of the test of both
follows-other : {e y k : ℕ} (u : Test) (exits : Exits) {a b c d : List Insn} → AreExits a exits → Decides k u exits e a b → y ≡ length c
    → Chooses 3 (condition jumps.Equal (operands.Constant 0x8035)) (record { yes = e; no = exits.no }) b c
    → Chooses 3 (condition jumps.Equal (operands.Constant 0x0806)) (record { yes = e; no = y }) c d
    → Follows any_registers (k + 6) (by_other u) exits (length d) a d
follows-other {e} {y} {k} u exits {a} {b} {c} {d} are arp at-rarp rarp-jump arp-jump =
    let none = follows-kept (λ r p. No) (follows-no exits a (λ r. tt) are) arp.extends in
    let arp' = follows-decided u arp in
    let rarp-test = follows-chosen (λ r. u) (λ r p. No) (λ r. r.accumulator == 0x8035) arp' none rarp-jump in
    follows-more (k + 6) (by_other u) (omega arith)
    (follows-chosen (λ r. u) _ (λ r. r.accumulator == 0x0806) (follows-kept (λ r. u) arp' rarp-jump.extends) rarp-test (rw at-rarp at arp-jump))

-- The test of IPv4 comes after that of the other types, or before it.
pub decides-any-net : {e f y n g h : ℕ} (t u : Test) (targets : Targets) {c0 c1 c2 c3 c4 c5 : List Insn} → AreTargets c0 targets
    → Decides g u (record { yes = targets.yes.other; no = targets.no.other }) e c0 c1
    → y ≡ length c2 → n ≡ length c3
    → Chooses 3 (condition jumps.Equal (operands.Constant 0x8035)) (record { yes = e; no = targets.no.other }) c1 c2
    → Chooses 3 (condition jumps.Equal (operands.Constant 0x0806)) (record { yes = e; no = y }) c2 c3
    → Decides h t (record { yes = targets.yes.ip; no = targets.no.ip }) f c3 c4
    → Chooses 3 (condition jumps.Equal (operands.Constant 0x0800)) (record { yes = f; no = n }) c4 c5
    → DecidesBy (g + h + 10) (of_any_type t u) targets (record { any = suc (length c5); ip = f; other = suc (length c5); first_fragment = f; transport = None }) c0 (load_insn (fields.Half 12) ∷ c5)
decides-any-net {e} {f} {y} {n} {g} {h} t u targets are arp at-rarp at-other rarp-jump arp-jump ip ip-jump =
    let others : Exits = record { yes = targets.yes.other; no = targets.no.other } in
    let other-test = follows-other u others (are.0.other, are.1.other) arp at-rarp rarp-jump arp-jump in
    decides-by-more (g + h + 10) (omega arith)
    (decides-by-type t u targets (decides-later (are.0.ip, are.1.ip) other-test.extends ip) (follows-kept (by_other u) other-test ip.extends) (rw at-other at ip-jump))

pub decides-listed-nets : {e f y n g h m : ℕ} (t u : Test) (targets : Targets) {c0 c1 c2 c3 c4 c5 : List Insn} → AreTargets c0 targets
    → Decides h t (record { yes = targets.yes.ip; no = targets.no.ip }) f c0 c1 → Extends m c1 c2
    → Decides g u (record { yes = targets.yes.other; no = targets.no.other }) e c0 c2
    → y ≡ length c3 → n ≡ length c4
    → Chooses 3 (condition jumps.Equal (operands.Constant 0x8035)) (record { yes = e; no = targets.no.other }) c2 c3
    → Chooses 3 (condition jumps.Equal (operands.Constant 0x0806)) (record { yes = e; no = y }) c3 c4
    → Chooses 3 (condition jumps.Equal (operands.Constant 0x0800)) (record { yes = f; no = n }) c4 c5
    → DecidesBy (h + m + 10) (of_any_type t u) targets (record { any = suc (length c5); ip = f; other = suc (length c5); first_fragment = f; transport = None }) c0 (load_insn (fields.Half 12) ∷ c5)
decides-listed-nets {e} {f} {y} {n} {g} {h} {m} t u targets are ip between arp at-rarp at-other rarp-jump arp-jump ip-jump =
    let others : Exits = record { yes = targets.yes.other; no = targets.no.other } in
    let other-test = follows-other u others (are.0.other, are.1.other) arp at-rarp rarp-jump arp-jump in
    decides-by-more (h + m + 10) (omega arith)
    (decides-by-type t u targets (decides-kept ip (extends-both between (extends-both rarp-jump.extends arp-jump.extends))) other-test (rw at-other at ip-jump))
