-- The tests of a port past a header, and of an address of whatever protocol.
use Rattle.std.proofs.Common.{◌≡◌, ℕ, suc, ◌+◌, ◌*◌, ◌<◌, ◌≤◌, Bool, true, false, List, ◌∷◌, length, Option, Some, None, refl, sym, ap, ◌∙◌, arith, if◌then◌else◌, nat_lt, nat_le, bit_and, ◌⊎◌, inl, inr, option_map, option_and_then}
use Rattle.std.proofs.lemmas.Bool.{cases_lt}
use Rattle.std.proofs.lemmas.Bool.Decides.{nat_tests}
use Rattle.bpfvm.specs.declared.insn.Insn.{Insn}
use Rattle.bpfvm.specs.Codes.{Accumulator, Index}
use Rattle.bpfvm.specs.Machine.{Registers, Goes, with_value, loaded, effect, number_at}
use Rattle.filter_tree.specs.declared.tree.Direction.{Direction}
use Rattle.filter_tree.specs.declared.tree.Direction.TheVariants.{Src, Dst, SrcOrDst, SrcAndDst}
use Rattle.filtergen_code.specs.declared.code.Exits.{Exits}
use Rattle.filter_meaning.specs.declared.verdict.Verdict.{Verdict}
use Rattle.filter_meaning.specs.declared.verdict.Verdict.TheVariants.{Yes, No}
use Rattle.filter_meaning.specs.Meaning.{Packet, HasBytes, Test, and_then, or_else, and_test, or_test, check, decided, byte, half, within, has_port, by_direction}
use Rattle.filtergen_code.specs.Insns.{plain_insn}
use Rattle.filtergen_code.specs.Parts.{port_after}
use Rattle.filtergen_code.specs.Emission.{AreExits, HasCells, run_from, Answers, Passes, outcome, ChoosesAfter, with_loaded, same_index, Follows, Decides}
use Rattle.filtergen_code.proofs.Runs.{after, answer-first, front-place, extends-both, extends-one, header-effect, half-effect}
use Rattle.filtergen_code.proofs.Following.{one_of, follows-yes, follows-no, follows-kept, follows-same, follows-loaded, follows-chosen}

-- the verdict of the source, that of the destination, or that of both
abbrev pub directed : Direction → Verdict → Verdict → Verdict
directed Src source destination = source
directed Dst source destination = destination
directed SrcOrDst source destination = or_else source destination
directed SrcAndDst source destination = and_then source destination

-- it is the verdict of their tests
pub directed-is : (d : Direction) (s t : Test) (p : Packet) → directed d (s p) (t p) ≡ by_direction d s t p
directed-is Src s t p = refl
directed-is Dst s t p = refl
directed-is SrcOrDst s t p = refl
directed-is SrcAndDst s t p = refl

-- from low to high by two comparisons
pub within-bounds : (low high n : ℕ) → (if nat_le low n then (if nat_lt high n then false else true) else false) ≡ within low high n
within-bounds low high n = by_cases (cases_lt high n) (cases_lt n low)
  where
    by_cases : (high < n) ⊎ (n ≤ high) → (n < low) ⊎ (low ≤ n) → (if nat_le low n then (if nat_lt high n then false else true) else false) ≡ within low high n
    by_cases (inl above) (inl below) = grind (arith, nat_tests)
    by_cases (inl above) (inr from) = grind (arith, nat_tests)
    by_cases (inr upto) (inl below) = grind (arith, nat_tests)
    by_cases (inr upto) (inr from) = grind (arith, nat_tests)

-- a port, and what is tested after it where it is within the range and where not
follows-port : {k l m e y n : ℕ} (o low high : ℕ) (t u : Registers → Test) {exits : Exits} {a b c : List Insn}
    → Follows same_index k t exits y a b → Follows same_index l u exits n a b
    → ChoosesAfter m (plain_insn 0x48 (14 + o)) (λ r. within low high r.accumulator) (record { yes = y; no = n }) e b c
    → Follows same_index (k + m + 1) (λ r p. with_loaded Accumulator r (number_at p.captured (r.index + (14 + o)) 2) (λ r'. if within low high r'.accumulator then t r' else u r') p) exits e a c
follows-port o low high t u yes-test no-test jump =
    rw (jump.here, jump.front)
    (follows-loaded (plain_insn 0x48 (14 + o)) Accumulator (λ r p. number_at p.captured (r.index + (14 + o)) 2) (λ r'. if within low high r'.accumulator then t r' else u r') (λ r s n same. same) (half-effect (14 + o))
    (follows-chosen t u (λ r. within low high r.accumulator) yes-test no-test jump.chosen))

pub follows-one-port : {e : ℕ} (o low high : ℕ) {exits : Exits} {a b : List Insn} → AreExits a exits
    → ChoosesAfter 6 (plain_insn 0x48 (14 + o)) (λ r. within low high r.accumulator) exits e a b
    → Follows same_index 7 (λ r. port_after r.index low high o) exits e a b
follows-one-port o low high {exits} {a} are jump =
    follows-same _ (λ r. port_after r.index low high o) (λ r p. by_value r p (half (r.index + (14 + o)) p))
    (follows-port o low high (λ r p. Yes) (λ r p. No) (follows-yes exits a (λ r. refl) are) (follows-no exits a (λ r. refl) are) jump)
  where
    by_choice : (p : Packet) (b : Bool) → one_of b (λ q. Yes) (λ q. No) p ≡ decided b
    by_choice p true = refl
    by_choice p false = refl

    by_value : (r : Registers) (p : Packet) (v : Option ℕ) → with_loaded Accumulator r v (λ r'. one_of (within low high r'.accumulator) (λ q. Yes) (λ q. No)) p ≡ check (within low high) v
    by_value r p None = refl
    by_value r p (Some n) = by_choice p (within low high n)

-- the source port, and the destination port where that does not decide
pub follows-either-port : {e f : ℕ} (low high : ℕ) {exits : Exits} {a b c : List Insn} → AreExits a exits
    → Follows same_index 7 (λ r. port_after r.index low high 2) exits f a b
    → ChoosesAfter 6 (plain_insn 0x48 (14 + 0)) (λ r. within low high r.accumulator) (record { yes = exits.yes; no = f }) e b c
    → Follows same_index 14 (λ r. or_test (port_after r.index low high 0) (port_after r.index low high 2)) exits e a c
follows-either-port low high {exits} {a} are second jump =
    follows-same _ (λ r. or_test (port_after r.index low high 0) (port_after r.index low high 2)) (λ r p. by_value r p (half (r.index + (14 + 0)) p))
    (follows-port 0 low high (λ r p. Yes) (λ r. port_after r.index low high 2) (follows-kept (λ r p. Yes) (follows-yes exits a (λ r. refl) are) second.extends) second jump)
  where
    by_choice : (t : Test) (p : Packet) (b : Bool) → one_of b (λ q. Yes) t p ≡ or_else (decided b) (t p)
    by_choice t p true = refl
    by_choice t p false = refl

    by_value : (r : Registers) (p : Packet) (v : Option ℕ) → with_loaded Accumulator r v (λ r'. one_of (within low high r'.accumulator) (λ q. Yes) (port_after r'.index low high 2)) p ≡ or_else (check (within low high) v) (port_after r.index low high 2 p)
    by_value r p None = refl
    by_value r p (Some n) = by_choice (port_after r.index low high 2) p (within low high n)

pub follows-both-ports : {e f : ℕ} (low high : ℕ) {exits : Exits} {a b c : List Insn} → AreExits a exits
    → Follows same_index 7 (λ r. port_after r.index low high 2) exits f a b
    → ChoosesAfter 6 (plain_insn 0x48 (14 + 0)) (λ r. within low high r.accumulator) (record { yes = f; no = exits.no }) e b c
    → Follows same_index 14 (λ r. and_test (port_after r.index low high 0) (port_after r.index low high 2)) exits e a c
follows-both-ports low high {exits} {a} are second jump =
    follows-same _ (λ r. and_test (port_after r.index low high 0) (port_after r.index low high 2)) (λ r p. by_value r p (half (r.index + (14 + 0)) p))
    (follows-port 0 low high (λ r. port_after r.index low high 2) (λ r p. No) second (follows-kept (λ r p. No) (follows-no exits a (λ r. refl) are) second.extends) jump)
  where
    by_choice : (t : Test) (p : Packet) (b : Bool) → one_of b t (λ q. No) p ≡ and_then (decided b) (t p)
    by_choice t p true = refl
    by_choice t p false = refl

    by_value : (r : Registers) (p : Packet) (v : Option ℕ) → with_loaded Accumulator r v (λ r'. one_of (within low high r'.accumulator) (port_after r'.index low high 2) (λ q. No)) p ≡ and_then (check (within low high) v) (port_after r.index low high 2 p)
    by_value r p None = refl
    by_value r p (Some n) = by_choice (port_after r.index low high 2) p (within low high n)

-- a port past the header whose length this first byte gives, if there is one
abbrev pub after_header : ℕ → ℕ → ℕ → Option ℕ → Packet → Verdict
after_header low high o v p = check (within low high) (option_and_then (λ x. half (14 + 4 * bit_and x 15 + o) p) v)

-- the header's length goes in front; exits that begin with it too may be passed
pub decides-after : {e y n : ℕ} (d : Direction) (low high : ℕ) {exits : Exits} {a b : List Insn} → e ≡ length b
    → Passes (plain_insn 0xb1 14) exits.yes y a → Passes (plain_insn 0xb1 14) exits.no n a
    → Follows same_index 14 (λ r. by_direction d (port_after r.index low high 0) (port_after r.index low high 2)) (record { yes = y; no = n }) e a b
    → Decides 15 (by_direction d (has_port low high 0) (has_port low high 2)) exits (suc (length b)) a (plain_insn 0xb1 14 ∷ b)
decides-after {e} {y} {n} d low high {exits} {a} {b} is yes-passed no-passed inner = record {
  extends = extends-both inner.extends (extends-one _ b);
  here = (omega arith, omega arith);
  decides = λ p k l bytes yes' no'. record {
    always = λ r cells.
        front-place (header ∷ b) p r ∙ answer-first header b p r _ (header-effect p r)
        ∙ by_header p k l r bytes cells yes' no' (byte 14 p) refl
        ∙ ap (λ v. outcome v k l) (by_value r p d (byte 14 p) ∙ directed-is d (has_port low high 0) (has_port low high 2) p);
  };
}
  where
    header : Insn
    header = plain_insn 0xb1 14

    length_of : ℕ → ℕ
    length_of x = 4 * bit_and x 15

    tests : Registers → Test
    tests r = by_direction d (port_after r.index low high 0) (port_after r.index low high 2)

    -- with the header's length in X, the same instruction changes nothing
    unchanged : (p : Packet) (x : ℕ) (s : Registers) → byte 14 p ≡ Some x → s.index ≡ length_of x → effect p.captured p.wire header s ≡ Goes 0 s
    unchanged p x s is' same =
        header-effect p s ∙ ap (λ v. loaded Index s (option_map length_of v)) is' ∙ ap (λ n. Goes 0 (with_value Index n s)) (sym same)

    by_header : (p : Packet) (k l : ℕ) (r : Registers) → HasBytes p → HasCells r → Answers a exits.yes p k → Answers a exits.no p l → (v : Option ℕ) → byte 14 p ≡ v
        → after b p (loaded Index r (option_map length_of v)) ≡ outcome (with_loaded Index r (option_map length_of v) tests p) k l
    by_header p k l r bytes cells yes' no' None is' = refl
    by_header p k l r bytes cells yes' no' (Some x) is' =
        let s = with_value Index (length_of x) r in
        sym (ap (λ place. run_from b place p s) is ∙ front-place b p s)
        ∙ inner.follows p k l s bytes cells
        (λ t kept same. yes-passed.leads p t (unchanged p x t is' same) ∙ yes'.always t kept)
        (λ t kept same. no-passed.leads p t (unchanged p x t is' same) ∙ no'.always t kept)

    same : (o x : ℕ) (p : Packet) → port_after (4 * bit_and x 15) low high o p ≡ after_header low high o (Some x) p
    same o x p = let at : 4 * bit_and x 15 + (14 + o) ≡ 14 + 4 * bit_and x 15 + o = omega arith in ap (λ k. check (within low high) (half k p)) at

    by_value : (r : Registers) (p : Packet) (d : Direction) (v : Option ℕ)
        → with_loaded Index r (option_map (λ x. 4 * bit_and x 15) v) (λ r'. by_direction d (port_after r'.index low high 0) (port_after r'.index low high 2)) p
        ≡ directed d (after_header low high 0 v p) (after_header low high 2 v p)
    by_value r p Src None = refl
    by_value r p Dst None = refl
    by_value r p SrcOrDst None = refl
    by_value r p SrcAndDst None = refl
    by_value r p Src (Some x) = same 0 x p
    by_value r p Dst (Some x) = same 2 x p
    by_value r p SrcOrDst (Some x) = ap (λ v. or_else v (port_after (4 * bit_and x 15) low high 2 p)) (same 0 x p) ∙ ap (or_else (after_header low high 0 (Some x) p)) (same 2 x p)
    by_value r p SrcAndDst (Some x) = ap (λ v. and_then v (port_after (4 * bit_and x 15) low high 2 p)) (same 0 x p) ∙ ap (and_then (after_header low high 0 (Some x) p)) (same 2 x p)
