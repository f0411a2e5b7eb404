-- Tests that are put together of tests.
use Rattle.std.proofs.Common.{◌≡◌, ℕ, suc, ◌+◌, ◌≤◌, Bool, true, false, List, ◌∷◌, length, Option, Some, None, refl, ap, ◌∙◌, arith, if◌then◌else◌, bit_and}
use Rattle.bpfvm.specs.declared.insn.Insn.{Insn}
use Rattle.bpfvm.specs.Codes.{Accumulator}
use Rattle.bpfvm.specs.Machine.{Registers, with_value, Goes, loaded, effect}
use Rattle.filtergen_code.specs.declared.code.Exits.{Exits}
use Rattle.filter_meaning.specs.declared.verdict.Verdict.{Verdict}
use Rattle.filter_meaning.specs.declared.verdict.Verdict.TheVariants.{Yes, No, Abort}
use Rattle.filter_meaning.specs.Meaning.{Packet, HasBytes, Test, and_then, or_else, opposite, and_test, or_test, not_test, check, decided}
use Rattle.filtergen_code.specs.Insns.{plain_insn}
use Rattle.filtergen_code.specs.Emission.{AreExits, HasCells, Answers, Passes, Extends, outcome, Chooses, with_loaded, Decides}
use Rattle.filtergen_code.proofs.Runs.{after, answer-first, front-place, extends-none, extends-one, extends-both, extends-more, answers-kept, mask-effect}
use Rattle.filtergen_code.proofs.Following.{decides-followed, follows-loaded, follows-exits}

pub outcome-both : (v w : Verdict) (m n : ℕ) → outcome v (outcome w m n) n ≡ outcome (and_then v w) m n
outcome-both Yes w m n = refl
outcome-both No w m n = refl
outcome-both Abort w m n = refl

pub outcome-either : (v w : Verdict) (m n : ℕ) → outcome v m (outcome w m n) ≡ outcome (or_else v w) m n
outcome-either Yes w m n = refl
outcome-either No w m n = refl
outcome-either Abort w m n = refl

pub outcome-opposite : (v : Verdict) (m n : ℕ) → outcome v n m ≡ outcome (opposite v) m n
outcome-opposite Yes m n = refl
outcome-opposite No m n = refl
outcome-opposite Abort m n = refl

pub answers-same : (code : List Insn) (place m n : ℕ) (p : Packet) → m ≡ n → Answers code place p m → Answers code place p n
answers-same code place m n p same before = record { always = λ r cells. before.always r cells ∙ same }

-- the second test is there first, and the first one goes on to it
pub decides-both : {k l e f : ℕ} {t u : Test} {exits : Exits} {a b c : List Insn} → AreExits a exits
    → Decides k u exits e a b → Decides l t (record { yes = e; no = exits.no }) f b c → Decides (k + l) (and_test t u) exits f a c
decides-both {k} {l} {e} {f} {t} {u} {exits} {a} {b} {c} are second first = record {
  extends = extends-both second.extends first.extends;
  here = first.here;
  decides = λ p m n bytes yes' no'.
      answers-same c f _ _ p (outcome-both (t p) (u p) m n)
      (first.decides p (outcome (u p) m n) n bytes (second.decides p m n bytes yes' no') (answers-kept exits.no n p second.extends are.1.1 no'));
}

pub decides-either : {k l e f : ℕ} {t u : Test} {exits : Exits} {a b c : List Insn} → AreExits a exits
    → Decides k u exits e a b → Decides l t (record { yes = exits.yes; no = e }) f b c → Decides (k + l) (or_test t u) exits f a c
decides-either {k} {l} {e} {f} {t} {u} {exits} {a} {b} {c} are second first = record {
  extends = extends-both second.extends first.extends;
  here = first.here;
  decides = λ p m n bytes yes' no'.
      answers-same c f _ _ p (outcome-either (t p) (u p) m n)
      (first.decides p m (outcome (u p) m n) bytes (answers-kept exits.yes m p second.extends are.0.1 yes') (second.decides p m n bytes yes' no'));
}

pub decides-not : {k e : ℕ} {t : Test} {exits : Exits} {a b : List Insn} → Decides k t (record { yes = exits.no; no = exits.yes }) e a b → Decides k (not_test t) exits e a b
decides-not {k} {e} {t} {exits} {a} {b} first = record {
  extends = first.extends;
  here = first.here;
  decides = λ p m n bytes yes' no'. answers-same b e _ _ p (outcome-opposite (t p) m n) (first.decides p n m bytes no' yes');
}

-- the same test in other words
pub decides-same : {k e : ℕ} (t u : Test) {exits : Exits} {a b : List Insn} → ((p : Packet) → HasBytes p → t p ≡ u p) → Decides k t exits e a b → Decides k u exits e a b
decides-same t u {exits} {a} {b} same first = record {
  extends = first.extends;
  here = first.here;
  decides = λ p m n bytes yes' no'. answers-same b _ _ _ p (ap (λ v. outcome v m n) (same p bytes)) (first.decides p m n bytes yes' no');
}

pub decides-more : {k : ℕ} (l : ℕ) {e : ℕ} {t : Test} {exits : Exits} {a b : List Insn} → k ≤ l → Decides k t exits e a b → Decides l t exits e a b
decides-more l more first = record { extends = extends-more l more first.extends; here = first.here; decides = first.decides }

-- what is put in front changes nothing, and the exits may have been there earlier
pub decides-kept : {k l e : ℕ} {t : Test} {exits : Exits} {a b c : List Insn} → Decides k t exits e a b → Extends l b c → Decides (k + l) t exits e a c
decides-kept {k} {l} {e} first further = record {
  extends = extends-both first.extends further;
  here = (first.here.0, omega (arith, first.here.1, further.longer));
  decides = λ p m n bytes yes' no'. answers-kept e _ p further first.here.1 (first.decides p m n bytes yes' no');
}

pub decides-later : {k l e : ℕ} {t : Test} {exits : Exits} {a b c : List Insn} → AreExits a exits → Extends k a b → Decides l t exits e b c → Decides (k + l) t exits e a c
decides-later {k} {l} {e} {t} {exits} are earlier first = record {
  extends = extends-both earlier first.extends;
  here = first.here;
  decides = λ p m n bytes yes' no'. first.decides p m n bytes (answers-kept exits.yes m p earlier are.0.1 yes') (answers-kept exits.no n p earlier are.1.1 no');
}

-- the entry of the second test is an exit of the first
pub yes-exits : {k e : ℕ} {t : Test} {exits : Exits} {a b : List Insn} → AreExits a exits → Decides k t exits e a b → AreExits b (record { yes = e; no = exits.no })
yes-exits are second = (second.here, (are.1.0, omega (arith, are.1.1, second.extends.longer)))

pub no-exits : {k e : ℕ} {t : Test} {exits : Exits} {a b : List Insn} → AreExits a exits → Decides k t exits e a b → AreExits b (record { yes = exits.yes; no = e })
no-exits are second = ((are.0.0, omega (arith, are.0.1, second.extends.longer)), second.here)

-- no code for what is always so
pub decides-always : (exits : Exits) (code : List Insn) → AreExits code exits → Decides 0 (λ p. Yes) exits exits.yes code code
decides-always exits code are = record { extends = extends-none code; here = are.0; decides = λ p m n bytes yes' no'. yes' }

-- a load in front of a choice by the accumulator, whose exits may be passed by such a load
pub decides-tested : {m y n : ℕ} (i : Insn) (value : Packet → Option ℕ) (f : ℕ → Bool) {exits : Exits} {a b : List Insn}
    → ((p : Packet) (r : Registers) → effect p.captured p.wire i r ≡ loaded Accumulator r (value p))
    → Passes i exits.yes y a → Passes i exits.no n a → Chooses m (λ r. f r.accumulator) (record { yes = y; no = n }) a b
    → Decides (m + 1) (λ p. check f (value p)) exits (suc (length b)) a (i ∷ b)
decides-tested {m} {y} {n} i value f {exits} {a} {b} loads yes-passed no-passed choice = record {
  extends = extends-both choice.extends (extends-one i b);
  here = (omega arith, omega arith);
  decides = λ p k l bytes yes' no'. record {
    always = λ r cells. front-place (i ∷ b) p r ∙ answer-first i b p r _ (loads p r) ∙ by_value p k l r cells yes' no' (value p) refl;
  };
}
  where
    by_choice : (c : Bool) (k l s t : ℕ) → s ≡ k → t ≡ l → (if c then s else t) ≡ outcome (decided c) k l
    by_choice true k l s t first second = first
    by_choice false k l s t first second = second

    by_value : (p : Packet) (k l : ℕ) (r : Registers) → HasCells r → Answers a exits.yes p k → Answers a exits.no p l → (v : Option ℕ) → value p ≡ v
        → after b p (loaded Accumulator r v) ≡ outcome (check f v) k l
    by_value p k l r cells yes' no' None is = refl
    by_value p k l r cells yes' no' (Some x) is =
        let r' = with_value Accumulator x r in
        let unchanged : effect p.captured p.wire i r' ≡ Goes 0 r' = loads p r' ∙ ap (loaded Accumulator r') is in
        choice.chooses p r'
        ∙ by_choice (f x) k l _ _ (yes-passed.leads p r' unchanged ∙ yes'.always r' cells) (no-passed.leads p r' unchanged ∙ no'.always r' cells)

-- the same with bits taken in between
pub decides-masked : {m : ℕ} (i : Insn) (mask : ℕ) (value : Packet → Option ℕ) (f : ℕ → Bool) {exits : Exits} {a b : List Insn}
    → ((p : Packet) (r : Registers) → effect p.captured p.wire i r ≡ loaded Accumulator r (value p))
    → AreExits a exits → Chooses m (λ r. f r.accumulator) exits a b
    → Decides (m + 2) (λ p. check (λ n. f (bit_and n mask)) (value p)) exits (suc (suc (length b))) a (i ∷ plain_insn 0x54 mask ∷ b)
decides-masked {m} i mask value f {exits} loads are choice =
    decides-more (m + 2) (omega arith)
    (decides-followed _ (λ p. check (λ n. f (bit_and n mask)) (value p)) (λ r p bytes. by_value r p (value p))
    (follows-loaded i Accumulator (λ r. value) (λ r p. decided (f (bit_and r.accumulator mask))) (λ r s n like. tt) loads
    (follows-loaded (plain_insn 0x54 mask) Accumulator (λ r p. Some (bit_and r.accumulator mask)) (λ r p. decided (f r.accumulator)) (λ r s n like. tt) (mask-effect mask)
    (follows-exits (λ r. f r.accumulator) are choice))))
  where
    by_value : (r : Registers) (p : Packet) (v : Option ℕ) → with_loaded Accumulator r v (λ r' p'. decided (f (bit_and r'.accumulator mask))) p ≡ check (λ n. f (bit_and n mask)) v
    by_value r p None = refl
    by_value r p (Some n) = refl
