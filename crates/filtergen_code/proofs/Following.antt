-- Tests of the registers, put together of jumps and loads.
use Rattle.std.proofs.Common.{◌≡◌, ℕ, suc, ◌+◌, ◌≤◌, Bool, true, false, List, ◌∷◌, length, Option, Some, None, refl, sym, ap, ◌∙◌, arith, if◌then◌else◌}
use Rattle.bpfvm.specs.declared.insn.Insn.{Insn}
use Rattle.bpfvm.specs.Codes.{Register, Accumulator, Index}
use Rattle.bpfvm.specs.Machine.{Registers, with_value, loaded, effect}
use Rattle.filtergen_code.specs.declared.code.Exits.{Exits}
use Rattle.filter_meaning.specs.declared.verdict.Verdict.TheVariants.{Yes, No}
use Rattle.filter_meaning.specs.Meaning.{Packet, HasBytes, Test, decided}
use Rattle.filtergen_code.specs.Emission.{AreExits, HasCells, run_from, Extends, outcome, Chooses, with_loaded, any_registers, LeadsLike, Follows, Decides}
use Rattle.filtergen_code.proofs.Runs.{after, answer-first, front-place, extends-none, extends-one, extends-both, extends-more}

-- each exit follows the answer that leads to it
pub follows-yes : {like : Registers → Registers → Type 0} (exits : Exits) (code : List Insn) → ((r : Registers) → like r r) → AreExits code exits → Follows like 0 (λ r p. Yes) exits exits.yes code code
follows-yes exits code itself are = record { extends = extends-none code; here = are.0; follows = λ p m n r bytes cells yes' no'. yes' r cells (itself r) }

pub follows-no : {like : Registers → Registers → Type 0} (exits : Exits) (code : List Insn) → ((r : Registers) → like r r) → AreExits code exits → Follows like 0 (λ r p. No) exits exits.no code code
follows-no exits code itself are = record { extends = extends-none code; here = are.1; follows = λ p m n r bytes cells yes' no'. no' r cells (itself r) }

-- what is put in front changes nothing
pub follows-kept : {like : Registers → Registers → Type 0} {k l e : ℕ} (t : Registers → Test) {exits : Exits} {a b c : List Insn} → Follows like k t exits e a b → Extends l b c → Follows like (k + l) t exits e a c
follows-kept {like} {k} {l} {e} t first further = record {
  extends = extends-both first.extends further;
  here = (first.here.0, omega (arith, first.here.1, further.longer));
  follows = λ p m n r bytes cells yes' no'. further.same e p r first.here.1 ∙ first.follows p m n r bytes cells yes' no';
}

-- the exits may have been there earlier
pub follows-later : {like : Registers → Registers → Type 0} {k l e : ℕ} (t : Registers → Test) {exits : Exits} {a b c : List Insn} → AreExits a exits → Extends k a b → Follows like l t exits e b c → Follows like (k + l) t exits e a c
follows-later {like} {k} {l} {e} t {exits} are earlier first = record {
  extends = extends-both earlier first.extends;
  here = first.here;
  follows = λ p m n r bytes cells yes' no'.
      first.follows p m n r bytes cells
      (λ s kept same. earlier.same exits.yes p s are.0.1 ∙ yes' s kept same) (λ s kept same. earlier.same exits.no p s are.1.1 ∙ no' s kept same);
}

pub follows-more : {like : Registers → Registers → Type 0} {k : ℕ} (l : ℕ) {e : ℕ} (t : Registers → Test) {exits : Exits} {a b : List Insn} → k ≤ l → Follows like k t exits e a b → Follows like l t exits e a b
follows-more l t more first = record { extends = extends-more l more first.extends; here = first.here; follows = first.follows }

-- the same test in other words
pub follows-same : {like : Registers → Registers → Type 0} {k e : ℕ} (t u : Registers → Test) {exits : Exits} {a b : List Insn} → ((r : Registers) (p : Packet) → t r p ≡ u r p) → Follows like k t exits e a b → Follows like k u exits e a b
follows-same t u same first = record {
  extends = first.extends;
  here = first.here;
  follows = λ p m n r bytes cells yes' no'. first.follows p m n r bytes cells yes' no' ∙ ap (λ v. outcome v m n) (same r p);
}

-- a test that does not look at the registers
pub follows-decided : {k e : ℕ} (t : Test) {exits : Exits} {a b : List Insn} → Decides k t exits e a b → Follows any_registers k (λ r. t) exits e a b
follows-decided t first = record {
  extends = first.extends;
  here = first.here;
  follows = λ p m n r bytes cells yes' no'.
      (first.decides p m n bytes (record { always = λ s kept. yes' s kept tt }) (record { always = λ s kept. no' s kept tt })).always r cells;
}

pub decides-followed : {like : Registers → Registers → Type 0} {k e : ℕ} (t : Registers → Test) (u : Test) {exits : Exits} {a b : List Insn} → ((r : Registers) (p : Packet) → HasBytes p → t r p ≡ u p) → Follows like k t exits e a b → Decides k u exits e a b
decides-followed t u same first = record {
  extends = first.extends;
  here = first.here;
  decides = λ p m n bytes yes' no'. record { always = λ r cells. first.follows p m n r bytes cells (λ s kept like. yes'.always s kept) (λ s kept like. no'.always s kept) ∙ ap (λ v. outcome v m n) (same r p bytes) };
}

-- a jump in front of two tests goes to the one or the other
pub follows-chosen : {like : Registers → Registers → Type 0} {k l m y n : ℕ} (t u : Registers → Test) (choice : Registers → Bool) {exits : Exits} {a b c : List Insn}
    → Follows like k t exits y a b → Follows like l u exits n a b → Chooses m choice (record { yes = y; no = n }) b c
    → Follows like (k + m) (λ r. if choice r then t r else u r) exits (length c) a c
follows-chosen {like} {k} {l} {m} {y} {n} t u choice {exits} {a} {b} {c} yes-test no-test jump = record {
  extends = extends-both yes-test.extends jump.extends;
  here = (omega (arith, yes-test.here.0, yes-test.here.1, jump.extends.longer), omega arith);
  follows = λ p m' n' r bytes cells yes' no'.
      front-place c p r ∙ jump.chooses p r
      ∙ by_choice p m' n' r (choice r) (yes-test.follows p m' n' r bytes cells yes' no') (no-test.follows p m' n' r bytes cells yes' no');
}
  where
    by_choice : (p : Packet) (m' n' : ℕ) (r : Registers) (chosen : Bool) → run_from b y p r ≡ outcome (t r p) m' n' → run_from b n p r ≡ outcome (u r p) m' n'
        → (if chosen then run_from b y p r else run_from b n p r) ≡ outcome ((if chosen then t r else u r) p) m' n'
    by_choice p m' n' r true first second = first
    by_choice p m' n' r false first second = second

cells-kept : (to : Register) (n : ℕ) (r : Registers) → HasCells r → HasCells (with_value to n r)
cells-kept Accumulator n r cells = cells
cells-kept Index n r cells = cells

-- a load in front of a test
pub follows-loaded : {like : Registers → Registers → Type 0} {k : ℕ} (i : Insn) (to : Register) (value : Registers → Packet → Option ℕ) (t : Registers → Test) {exits : Exits} {a b : List Insn}
    → ((r s : Registers) (n : ℕ) → like (with_value to n r) s → like r s)
    → ((p : Packet) (r : Registers) → effect p.captured p.wire i r ≡ loaded to r (value r p))
    → Follows like k t exits (length b) a b
    → Follows like (k + 1) (λ r p. with_loaded to r (value r p) t p) exits (suc (length b)) a (i ∷ b)
follows-loaded {like} {k} i to value t {exits} {a} {b} through loads first = record {
  extends = extends-both first.extends (extends-one i b);
  here = (omega arith, omega arith);
  follows = λ p m n r bytes cells yes' no'.
      front-place (i ∷ b) p r ∙ answer-first i b p r _ (loads p r) ∙ by_value p m n r bytes cells yes' no' (value r p);
}
  where
    by_value : (p : Packet) (m n : ℕ) (r : Registers) → HasBytes p → HasCells r → LeadsLike like a exits.yes p r m → LeadsLike like a exits.no p r n → (v : Option ℕ)
        → after b p (loaded to r v) ≡ outcome (with_loaded to r v t p) m n
    by_value p m n r bytes cells yes' no' None = refl
    by_value p m n r bytes cells yes' no' (Some x) =
        sym (front-place b p (with_value to x r)) ∙ first.follows p m n (with_value to x r) bytes (cells-kept to x r cells)
        (λ s kept same. yes' s kept (through r s x same)) (λ s kept same. no' s kept (through r s x same))

abbrev pub one_of : Bool → Test → Test → Test
one_of b t u = if b then t else u

by_choice : (p : Packet) (b : Bool) → one_of b (λ q. Yes) (λ q. No) p ≡ decided b
by_choice p true = refl
by_choice p false = refl

-- a choice between the exits
pub follows-exits : {m : ℕ} (choice : Registers → Bool) {exits : Exits} {a b : List Insn} → AreExits a exits → Chooses m choice exits a b
    → Follows any_registers m (λ r p. decided (choice r)) exits (length b) a b
follows-exits {m} choice {exits} {a} {b} are jump =
    follows-more m _ (omega arith)
    (follows-same (λ r. one_of (choice r) (λ p. Yes) (λ p. No)) (λ r p. decided (choice r)) (λ r p. by_choice p (choice r))
    (follows-chosen (λ r p. Yes) (λ r p. No) choice (follows-yes exits a (λ r. tt) are) (follows-no exits a (λ r. tt) are) jump))
