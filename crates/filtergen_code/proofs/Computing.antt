-- Code that computes values.
use Rattle.std.proofs.Common.{◌≡◌, ◌≢◌, ℕ, ◌+◌, ◌*◌, ◌%◌, ◌^◌, ◌<◌, ◌≤◌, Bool, true, false, List, ◌∷◌, length, Option, Some, None, refl, sym, ap, ◌∙◌, subst, arith, bit_and, option_map, option_and_then, get_or-set_same, get_or-set_other, length-set, if◌then◌else◌, not, nat_lt, nat_le, ◌==◌, ◌⊎◌, inl, inr}
use Rattle.std.specs.Option.{is_some}
use Rattle.std.specs.Prelude.{slice_index, slice_set}
use Rattle.std.proofs.lemmas.Nat.{and_le_r}
use Rattle.std.proofs.lemmas.Bool.{cases_lt}
use Rattle.std.proofs.lemmas.Bool.Decides.{nat_tests}
use Rattle.bpfvm.specs.declared.insn.Insn.{Insn}
use Rattle.bpfvm.specs.Codes.{Register, Accumulator, Index, Subtract, AnyBit, operation_of}
use Rattle.bpfvm.specs.Machine.{Registers, with_value, with_cell, Goes, loaded, effect, number_at, calculated, holds}
use Rattle.filter_tree.specs.declared.tree.Comparison.TheVariants as comparisons
use Rattle.filter_tree.specs.Trees.{Amount, number, wire_length, minus, binary, accessor}
use Rattle.filter_tree.specs.declared.tree.Operator.{Operator}
use Rattle.filter_tree.specs.declared.tree.Operator.TheVariants as operators
use Rattle.filter_tree.specs.declared.tree.Layer.{Layer}
use Rattle.filter_tree.specs.declared.tree.Layer.TheVariants as layers
use Rattle.filter_tree.specs.declared.tree.Size.{Size}
use Rattle.filter_tree.specs.declared.tree.Size.TheVariants as sizes
use Rattle.filtergen_code.specs.declared.code.Exits.{Exits}
use Rattle.filtergen_code.specs.declared.insns.Operand.{Operand}
use Rattle.filtergen_code.specs.declared.insns.Operand.TheVariants as operands
use Rattle.filtergen_code.specs.declared.values.Base.TheVariants as bases
use Rattle.filtergen_code.specs.declared.values.Leaf.{Leaf}
use Rattle.filtergen_code.specs.declared.values.Leaf.TheVariants as leaves
use Rattle.filtergen_facts.specs.declared.packet_facts.PacketFacts.{PacketFacts}
use Rattle.filter_meaning.specs.declared.verdict.Verdict.{Verdict}
use Rattle.filter_meaning.specs.declared.verdict.Verdict.TheVariants.{Yes, No, Abort}
use Rattle.filtergen_facts.specs.Facts.{after_layers}
use Rattle.filtergen_code.specs.Remaining.{rest_of_layers}
use Rattle.filter_meaning.specs.Meaning.{Packet, and_then, opposite, byte, decided, compared, arithmetic_of, bytes_of, accessed, value, check, check_both}
use Rattle.filtergen_code.specs.Parts.{constant_of, IsLeaf, leaf_value, base_of, read_from, value_cost}
use Rattle.filtergen_code.specs.Insns.{plain_insn, calculation_insn, absolute_code, indirect_code}
use Rattle.filtergen_code.specs.Emission.{AreExits, HasCells, run_from, Answers, outcome, Chooses, Decides, value_of, front, Loads, Keeps, Computed, Computes, Applies, Paired, Pairs}
use Rattle.filtergen_code.proofs.Bounds.{value_positive}
use Rattle.filtergen_code.proofs.Runs.{after, answer-first, front-place, extends-one, extends-both, extends-more, header-effect}

tax-effect : (p : Packet) (r : Registers) → effect p.captured p.wire (plain_insn 0x07 0) r ≡ loaded Index r (Some r.accumulator)
unfolding effect operation_of
tax-effect p r = refl

add-effect : (p : Packet) (r : Registers) → effect p.captured p.wire (plain_insn 0x0c 0) r ≡ loaded Accumulator r (Some ((r.accumulator + r.index) % 2 ^ 32))
unfolding effect operation_of
add-effect p r = refl

cell-effect : (k : ℕ) (p : Packet) (r : Registers) → effect p.captured p.wire (plain_insn 0x60 k) r ≡ loaded Accumulator r (Some (slice_index r.memory k))
unfolding effect operation_of
cell-effect k p r = refl

store-effect : (k : ℕ) (p : Packet) (r : Registers) → effect p.captured p.wire (plain_insn 0x02 k) r ≡ Goes 0 (with_cell k r.accumulator r)
unfolding effect operation_of
store-effect k p r = refl

-- a leaf goes into a register by one instruction
pub loads-one : (i : Insn) (to : Register) (n : Packet → ℕ) (old : List Insn) → ((p : Packet) (r : Registers) → effect p.captured p.wire i r ≡ loaded to r (Some (n p))) → Loads to n old (i ∷ old)
loads-one i to n old is = record { extends = extends-one i old; loads = λ p r. answer-first i old p r _ (is p r) }

pub number-effect : (n : ℕ) (p : Packet) (r : Registers) → effect p.captured p.wire (plain_insn 0x00 n) r ≡ loaded Accumulator r (Some n)
unfolding effect operation_of
number-effect n p r = refl

pub length-effect : (p : Packet) (r : Registers) → effect p.captured p.wire (plain_insn 0x80 0) r ≡ loaded Accumulator r (Some p.wire)
unfolding effect operation_of
length-effect p r = refl

pub index_number-effect : (n : ℕ) (p : Packet) (r : Registers) → effect p.captured p.wire (plain_insn 0x01 n) r ≡ loaded Index r (Some n)
unfolding effect operation_of
index_number-effect n p r = refl

pub index_length-effect : (p : Packet) (r : Registers) → effect p.captured p.wire (plain_insn 0x81 0) r ≡ loaded Index r (Some p.wire)
unfolding effect operation_of
index_length-effect p r = refl

pub negate-effect : (p : Packet) (r : Registers) → effect p.captured p.wire (plain_insn 0x84 0) r ≡ loaded Accumulator r (calculated Subtract 0 r.accumulator)
unfolding effect operation_of
negate-effect p r = refl

-- an operator with its operand
pub calculation-effect : (o : Operator) (v : Operand) (p : Packet) (r : Registers) → effect p.captured p.wire (calculation_insn o v) r ≡ loaded Accumulator r (calculated (arithmetic_of o) r.accumulator (value_of v r))
unfolding effect operation_of
calculation-effect operators.Plus (operands.Constant k) p r = refl
calculation-effect operators.Minus (operands.Constant k) p r = refl
calculation-effect operators.Times (operands.Constant k) p r = refl
calculation-effect operators.Divide (operands.Constant k) p r = refl
calculation-effect operators.Modulo (operands.Constant k) p r = refl
calculation-effect operators.BitAnd (operands.Constant k) p r = refl
calculation-effect operators.BitXor (operands.Constant k) p r = refl
calculation-effect operators.BitOr (operands.Constant k) p r = refl
calculation-effect operators.ShiftLeft (operands.Constant k) p r = refl
calculation-effect operators.ShiftRight (operands.Constant k) p r = refl
calculation-effect operators.Plus operands.Index p r = refl
calculation-effect operators.Minus operands.Index p r = refl
calculation-effect operators.Times operands.Index p r = refl
calculation-effect operators.Divide operands.Index p r = refl
calculation-effect operators.Modulo operands.Index p r = refl
calculation-effect operators.BitAnd operands.Index p r = refl
calculation-effect operators.BitXor operands.Index p r = refl
calculation-effect operators.BitOr operands.Index p r = refl
calculation-effect operators.ShiftLeft operands.Index p r = refl
calculation-effect operators.ShiftRight operands.Index p r = refl

indirect-effect : (s : Size) (k : ℕ) (p : Packet) (r : Registers) → effect p.captured p.wire (plain_insn (indirect_code s) k) r ≡ loaded Accumulator r (number_at p.captured (r.index + k) (bytes_of s))
unfolding effect operation_of
indirect-effect sizes.One k p r = refl
indirect-effect sizes.Two k p r = refl
indirect-effect sizes.Four k p r = refl

absolute-effect : (s : Size) (k : ℕ) (p : Packet) (r : Registers) → effect p.captured p.wire (plain_insn (absolute_code s) k) r ≡ loaded Accumulator r (number_at p.captured k (bytes_of s))
unfolding effect operation_of
absolute-effect sizes.One k p r = refl
absolute-effect sizes.Two k p r = refl
absolute-effect sizes.Four k p r = refl

-- a leaf is a value
pub computes-loaded : (n : Packet → ℕ) (cell : ℕ) {old new : List Insn} → Loads Accumulator n old new → Computes 1 (λ p. Some (n p)) cell old new
computes-loaded n cell {old} {new} first = record {
  extends = first.extends;
  computes = λ p r cells. (with_value Accumulator (n p) r, first.loads p r, refl, record { cells = cells; same = λ k below. refl });
}

-- what one instruction makes of the accumulator
loaded-computed : (v : Option ℕ) (cell : ℕ) (p : Packet) (r : Registers) (i : Insn) (old : List Insn) → HasCells r → effect p.captured p.wire i r ≡ loaded Accumulator r v → Computed v cell p r old (i ∷ old)
loaded-computed None cell p r i old cells loads = answer-first i old p r _ loads
loaded-computed (Some n) cell p r i old cells loads = (with_value Accumulator n r, answer-first i old p r _ loads, refl, record { cells = cells; same = λ k below. refl })

pub applies-one : (i : Insn) (f : Packet → ℕ → Option ℕ) (old : List Insn) → ((p : Packet) (r : Registers) → effect p.captured p.wire i r ≡ loaded Accumulator r (f p r.accumulator)) → Applies 1 f old (i ∷ old)
applies-one i f old loads = record {
  extends = extends-one i old;
  applies = λ p r cell cells. loaded-computed (f p r.accumulator) cell p r i old cells (loads p r);
}

-- the same run, begun earlier, with registers whose cells are the same
earlier : (v : Option ℕ) (cell : ℕ) (p : Packet) (r s : Registers) (old mid new : List Insn) → front new p r ≡ front mid p s → s.memory ≡ r.memory → Computed v cell p s old mid → Computed v cell p r old new
earlier None cell p r s old mid new goes same before = goes ∙ before
earlier (Some n) cell p r s old mid new goes same (t, goes', is, keeps) =
    (t, goes ∙ goes', is, record { cells = keeps.cells; same = λ k below. keeps.same k below ∙ ap (λ m. slice_index m k) same })

-- a load this many bytes past the accumulator
indirect-computed : (s : Size) (k : ℕ) (p : Packet) (r : Registers) (cell : ℕ) (old : List Insn) → HasCells r
    → Computed (number_at p.captured (r.accumulator + k) (bytes_of s)) cell p r old (plain_insn 0x07 0 ∷ plain_insn (indirect_code s) k ∷ old)
indirect-computed s k p r cell old cells =
    let r' = with_value Index r.accumulator r in
    earlier (number_at p.captured (r.accumulator + k) (bytes_of s)) cell p r r' old (plain_insn (indirect_code s) k ∷ old) _ (answer-first (plain_insn 0x07 0) _ p r _ (tax-effect p r)) refl
    (loaded-computed (number_at p.captured (r.accumulator + k) (bytes_of s)) cell p r' (plain_insn (indirect_code s) k) old cells (indirect-effect s k p r'))

computed-same : (v w : Option ℕ) (cell : ℕ) (p : Packet) (r : Registers) (old new : List Insn) → v ≡ w → Computed v cell p r old new → Computed w cell p r old new
computed-same v w cell p r old new same before = subst (λ (x : Option ℕ). Computed x cell p r old new) same before

pub applies-indirect : (s : Size) (k : ℕ) (f : Packet → ℕ → Option ℕ) (old : List Insn) → ((p : Packet) (n : ℕ) → number_at p.captured (n + k) (bytes_of s) ≡ f p n)
    → Applies 2 f old (plain_insn 0x07 0 ∷ plain_insn (indirect_code s) k ∷ old)
applies-indirect s k f old same = record {
  extends = extends-both (extends-one (plain_insn (indirect_code s) k) old) (extends-one (plain_insn 0x07 0) _);
  applies = λ p r cell cells. computed-same _ _ cell p r old _ (same p r.accumulator) (indirect-computed s k p r cell old cells);
}

pub frame-same : (s : Size) (p : Packet) (n : ℕ) → number_at p.captured (n + 0) (bytes_of s) ≡ read_from bases.Frame (bytes_of s) p n
frame-same s p n = let at : n + 0 ≡ n = omega arith in ap (λ o. number_at p.captured o (bytes_of s)) at

pub network-same : (s : Size) (p : Packet) (n : ℕ) → number_at p.captured (n + 14) (bytes_of s) ≡ read_from bases.Network (bytes_of s) p n
network-same s p n = let at : n + 14 ≡ 14 + n = omega arith in ap (λ o. number_at p.captured o (bytes_of s)) at

-- past the IPv4 header, whose length is added modulo 2 ^ 32
pub applies-transport : (s : Size) (old : List Insn) → Applies 4 (read_from bases.Transport (bytes_of s)) old (plain_insn 0xb1 14 ∷ plain_insn 0x0c 0 ∷ plain_insn 0x07 0 ∷ plain_insn (indirect_code s) 14 ∷ old)
applies-transport s old = record {
  extends = extends-both (extends-both (extends-both (extends-one (plain_insn (indirect_code s) 14) old) (extends-one (plain_insn 0x07 0) _)) (extends-one (plain_insn 0x0c 0) _)) (extends-one (plain_insn 0xb1 14) _);
  applies = λ p r cell cells. by_header p r cell cells (byte 14 p) (answer-first (plain_insn 0xb1 14) _ p r _ (header-effect p r));
}
  where
    by_header : (p : Packet) (r : Registers) (cell : ℕ) → HasCells r → (h : Option ℕ)
        → front (plain_insn 0xb1 14 ∷ plain_insn 0x0c 0 ∷ plain_insn 0x07 0 ∷ plain_insn (indirect_code s) 14 ∷ old) p r ≡ after (plain_insn 0x0c 0 ∷ plain_insn 0x07 0 ∷ plain_insn (indirect_code s) 14 ∷ old) p (loaded Index r (option_map (λ b. 4 * bit_and b 15) h))
        → Computed (option_and_then (λ b. number_at p.captured (14 + (r.accumulator + 4 * bit_and b 15) % 2 ^ 32) (bytes_of s)) h) cell p r old (plain_insn 0xb1 14 ∷ plain_insn 0x0c 0 ∷ plain_insn 0x07 0 ∷ plain_insn (indirect_code s) 14 ∷ old)
    by_header p r cell cells None goes = goes
    by_header p r cell cells (Some b) goes =
        let h = 4 * bit_and b 15 in
        let r1 = with_value Index h r in
        let n = (r.accumulator + h) % 2 ^ 32 in
        let r2 = with_value Accumulator n r1 in
        let at : n + 14 ≡ 14 + n = omega arith in
        earlier (number_at p.captured (14 + n) (bytes_of s)) cell p r r1 old (plain_insn 0x0c 0 ∷ plain_insn 0x07 0 ∷ plain_insn (indirect_code s) 14 ∷ old) _ goes refl
        (earlier (number_at p.captured (14 + n) (bytes_of s)) cell p r1 r2 old (plain_insn 0x07 0 ∷ plain_insn (indirect_code s) 14 ∷ old) _ (answer-first (plain_insn 0x0c 0) _ p r1 _ (add-effect p r1)) refl
        (computed-same _ _ cell p r2 old _ (ap (λ o. number_at p.captured o (bytes_of s)) at) (indirect-computed s 14 p r2 cell old cells)))

-- a load at an offset of the frame
pub computes-absolute : (s : Size) (k : ℕ) (cell : ℕ) (old : List Insn) → Computes 1 (λ p. number_at p.captured k (bytes_of s)) cell old (plain_insn (absolute_code s) k ∷ old)
computes-absolute s k cell old = record {
  extends = extends-one _ old;
  computes = λ p r cells. loaded-computed (number_at p.captured k (bytes_of s)) cell p r (plain_insn (absolute_code s) k) old cells (absolute-effect s k p r);
}

-- the sum of a low index and a header's length does not wrap
unwrapped : (i h : ℕ) → h ≤ 60 → i + 60 < 2 ^ 32 → h + (14 + i) ≡ 14 + (i + h) % 2 ^ 32
unwrapped i h short near = omega arith

-- a header has at most 60 bytes
header-short : (b : ℕ) → 4 * bit_and b 15 ≤ 60
header-short b = omega (arith, and_le_r b 15)

-- a load past the IPv4 header at a low index
pub computes-after : (s : Size) (i : ℕ) (cell : ℕ) (old : List Insn) → 74 + i < 2 ^ 32
    → Computes 2 (λ p. read_from bases.Transport (bytes_of s) p i) cell old (plain_insn 0xb1 14 ∷ plain_insn (indirect_code s) (14 + i) ∷ old)
computes-after s i cell old near = record {
  extends = extends-both (extends-one (plain_insn (indirect_code s) (14 + i)) old) (extends-one (plain_insn 0xb1 14) _);
  computes = λ p r cells. by_header p r cells (byte 14 p) (answer-first (plain_insn 0xb1 14) _ p r _ (header-effect p r));
}
  where
    by_header : (p : Packet) (r : Registers) → HasCells r → (h : Option ℕ)
        → front (plain_insn 0xb1 14 ∷ plain_insn (indirect_code s) (14 + i) ∷ old) p r ≡ after (plain_insn (indirect_code s) (14 + i) ∷ old) p (loaded Index r (option_map (λ b. 4 * bit_and b 15) h))
        → Computed (option_and_then (λ b. number_at p.captured (14 + (i + 4 * bit_and b 15) % 2 ^ 32) (bytes_of s)) h) cell p r old (plain_insn 0xb1 14 ∷ plain_insn (indirect_code s) (14 + i) ∷ old)
    by_header p r cells None goes = goes
    by_header p r cells (Some b) goes =
        let h = 4 * bit_and b 15 in
        let r1 = with_value Index h r in
        let at : h + (14 + i) ≡ 14 + (i + h) % 2 ^ 32 = unwrapped i h (header-short b) (omega arith) in
        earlier (number_at p.captured (14 + (i + h) % 2 ^ 32) (bytes_of s)) cell p r r1 old (plain_insn (indirect_code s) (14 + i) ∷ old) _ goes refl
        (computed-same _ _ cell p r1 old _ (ap (λ o. number_at p.captured o (bytes_of s)) at)
        (loaded-computed (number_at p.captured (h + (14 + i)) (bytes_of s)) cell p r1 (plain_insn (indirect_code s) (14 + i)) old cells (indirect-effect s (14 + i) p r1)))

-- a constant has its value on every packet
pub constant-value : (v : Amount) (n : ℕ) (p : Packet) → constant_of v ≡ Some n → value v p ≡ Some n
constant-value (number m) n p is = is
constant-value wire_length n p is = absurd cc
constant-value (minus v) n p is = by_operand (constant_of v) (λ m. constant-value v m p) is
  where
    by_operand : (x : Option ℕ) → ((m : ℕ) → x ≡ Some m → value v p ≡ Some m) → option_and_then (calculated Subtract 0) x ≡ Some n → option_and_then (calculated Subtract 0) (value v p) ≡ Some n
    by_operand None known is = absurd cc
    by_operand (Some m) known is = ap (option_and_then (calculated Subtract 0)) (known m refl) ∙ is
constant-value (binary o v w) n p is = by_operands (constant_of v) (constant_of w) (λ m. constant-value v m p) (λ m. constant-value w m p) is
  where
    by_operands : (x y : Option ℕ) → ((m : ℕ) → x ≡ Some m → value v p ≡ Some m) → ((m : ℕ) → y ≡ Some m → value w p ≡ Some m)
        → option_and_then (λ b. option_and_then (λ a. calculated (arithmetic_of o) a b) x) y ≡ Some n
        → option_and_then (λ a. option_and_then (λ b. calculated (arithmetic_of o) a b) (value w p)) (value v p) ≡ Some n
    by_operands x None left right is = absurd cc
    by_operands None (Some b) left right is = absurd cc
    by_operands (Some a) (Some b) left right is =
        ap (option_and_then (λ c. option_and_then (λ d. calculated (arithmetic_of o) c d) (value w p))) (left a refl)
        ∙ ap (option_and_then (λ d. calculated (arithmetic_of o) a d)) (right b refl)
        ∙ is
constant-value (accessor layer v size) n p is = absurd cc

-- and it has no accessor, and so no layer to test
pub constant-always : (k : PacketFacts) (v : Amount) (n : ℕ) (p : Packet) → constant_of v ≡ Some n → rest_of_layers k v p ≡ Yes
constant-always k (number m) n p is = refl
constant-always k wire_length n p is = absurd cc
constant-always k (minus v) n p is = by_operand (constant_of v) (λ m. constant-always k v m p) is
  where
    by_operand : (x : Option ℕ) → ((m : ℕ) → x ≡ Some m → rest_of_layers k v p ≡ Yes) → option_and_then (calculated Subtract 0) x ≡ Some n → rest_of_layers k v p ≡ Yes
    by_operand None known is = absurd cc
    by_operand (Some m) known is = known m refl
constant-always k (binary o v w) n p is = by_operands (constant_of v) (constant_of w) (λ m. constant-always k v m p) (λ m. constant-always (after_layers k v) w m p) is
  where
    by_operands : (x y : Option ℕ) → ((m : ℕ) → x ≡ Some m → rest_of_layers k v p ≡ Yes) → ((m : ℕ) → y ≡ Some m → rest_of_layers (after_layers k v) w p ≡ Yes)
        → option_and_then (λ b. option_and_then (λ a. calculated (arithmetic_of o) a b) x) y ≡ Some n → and_then (rest_of_layers k v p) (rest_of_layers (after_layers k v) w p) ≡ Yes
    by_operands x None left right is = absurd cc
    by_operands None (Some b) left right is = absurd cc
    by_operands (Some a) (Some b) left right is = ap (λ x. and_then x (rest_of_layers (after_layers k v) w p)) (left a refl) ∙ right b refl
constant-always k (accessor layer v size) n p is = absurd cc

-- so that nothing is left of an operator's right operand
pub constant-right : (k : PacketFacts) (o : Operator) (v w : Amount) (p : Packet) → is_some (constant_of w) ≡ true → rest_of_layers k v p ≡ rest_of_layers k (binary o v w) p
constant-right k o v w p is = sym (ap (and_then (rest_of_layers k v p)) (by_value (constant_of w) (λ n. constant-always (after_layers k v) w n p) is) ∙ and-yes (rest_of_layers k v p))
  where
    by_value : (x : Option ℕ) → ((n : ℕ) → x ≡ Some n → rest_of_layers (after_layers k v) w p ≡ Yes) → is_some x ≡ true → rest_of_layers (after_layers k v) w p ≡ Yes
    by_value None always is' = absurd cc
    by_value (Some n) always is' = always n refl

    and-yes : (x : Verdict) → and_then x Yes ≡ x
    and-yes Yes = refl
    and-yes No = refl
    and-yes Abort = refl

-- the value of a leaf is there
pub leaf-valued : (l : Leaf) (v : Amount) → IsLeaf l v → (p : Packet) → value v p ≡ Some (leaf_value l p)
leaf-valued (leaves.Number n) v is p = constant-value v n p is
leaf-valued leaves.Length v is p = ap (λ x. value x p) is

-- the index of an accessor is counted from its layer's base
pub read-accessed : (l : Layer) (size : ℕ) → read_from (base_of l) size ≡ accessed l size
read-accessed layers.Ether size = refl
read-accessed layers.Ip size = refl
read-accessed layers.Arp size = refl
read-accessed layers.Rarp size = refl
read-accessed layers.Tcp size = refl
read-accessed layers.Udp size = refl
read-accessed layers.Icmp size = refl

pub applies-more : {m : ℕ} (n : ℕ) {f : Packet → ℕ → Option ℕ} {old new : List Insn} → m ≤ n → Applies m f old new → Applies n f old new
applies-more n more first = record { extends = extends-more n more first.extends; applies = first.applies }

pub computes-more : {m : ℕ} (n : ℕ) {v : Packet → Option ℕ} {cell : ℕ} {old new : List Insn} → m ≤ n → Computes m v cell old new → Computes n v cell old new
computes-more n more first = record { extends = extends-more n more first.extends; computes = first.computes }

-- the same values in other words
pub computes-same : {m cell : ℕ} (v w : Packet → Option ℕ) {old new : List Insn} → ((p : Packet) → v p ≡ w p) → Computes m v cell old new → Computes m w cell old new
computes-same {m} {cell} v w {old} {new} same first = record {
  extends = first.extends;
  computes = λ p r cells. computed-same (v p) (w p) cell p r old new (same p) (first.computes p r cells);
}

-- a constant is loaded as a whole
pub computes-constant : {old new : List Insn} (v : Amount) (n cell : ℕ) → constant_of v ≡ Some n → Loads Accumulator (λ p. n) old new → Computes (value_cost v) (value v) cell old new
computes-constant v n cell is loads =
    computes-more (value_cost v) (value_positive v) (computes-same (λ p. Some n) (value v) (λ p. sym (constant-value v n p is)) (computes-loaded (λ p. n) cell loads))

-- an operator with a constant after it
pub constant-after : (o : Operator) (v w : Amount) (n : ℕ) (p : Packet) → constant_of w ≡ Some n
    → option_and_then (λ a. calculated (arithmetic_of o) a n) (value v p) ≡ value (binary o v w) p
constant-after o v w n p is = sym (ap (λ x. option_and_then (λ a. option_and_then (λ b. calculated (arithmetic_of o) a b) x) (value v p)) (constant-value w n p is))

-- a comparison that is made by the opposite one
pub not-equal : (a b : ℕ) → (if a == b then false else true) ≡ not (a == b)
not-equal a b = by_test (a == b)
  where
    by_test : (c : Bool) → (if c then false else true) ≡ not c
    by_test true = refl
    by_test false = refl

-- bits under a constant mask
pub masked-value : (v w : Amount) (mask : ℕ) (p : Packet) → constant_of w ≡ Some mask → option_map (λ n. bit_and n mask) (value v p) ≡ value (binary operators.BitAnd v w) p
masked-value v w mask p is = by_value (value v p) ∙ constant-after operators.BitAnd v w mask p is
  where
    by_value : (x : Option ℕ) → option_map (λ n. bit_and n mask) x ≡ option_and_then (λ a. calculated (arithmetic_of operators.BitAnd) a mask) x
    by_value None = refl
    by_value (Some a) = refl

-- any of them, and none
pub bits-any : (mask : ℕ) (x : Option ℕ) → check_both (holds AnyBit) x (Some mask) ≡ check_both (compared comparisons.NotEqual) (option_map (λ n. bit_and n mask) x) (Some 0)
bits-any mask None = refl
bits-any mask (Some a) = ap decided (not-equal (bit_and a mask) 0)

pub bits-none : (x : Option ℕ) → opposite (check_both (compared comparisons.NotEqual) x (Some 0)) ≡ check_both (compared comparisons.Equal) x (Some 0)
bits-none None = refl
bits-none (Some a) = by_test (a == 0)
  where
    by_test : (b : Bool) → opposite (decided (not b)) ≡ decided b
    by_test true = refl
    by_test false = refl

-- an accessor with a constant as its index
pub index-known : (l : Layer) (size : ℕ) (v : Amount) (n : ℕ) (p : Packet) → constant_of v ≡ Some n → accessed l size p n ≡ option_and_then (accessed l size p) (value v p)
index-known l size v n p is = sym (ap (option_and_then (accessed l size p)) (constant-value v n p is))

-- a value that is a number of the packet, compared with a constant
pub field-checked : (f : ℕ → ℕ → Bool) (n : ℕ) (v w : Option ℕ) → v ≡ w → check (λ m. f m n) v ≡ check_both f w (Some n)
field-checked f n v w is = by_value v ∙ ap (λ x. check_both f x (Some n)) is
  where
    by_value : (x : Option ℕ) → check (λ m. f m n) x ≡ check_both f x (Some n)
    by_value None = refl
    by_value (Some m) = refl

-- what stands in front goes on over what comes after
pub computes-applied : {m n cell : ℕ} {f : Packet → ℕ → Option ℕ} {v : Packet → Option ℕ} {old mid new : List Insn} → Applies m f old mid → Computes n v cell mid new
    → Computes (m + n) (λ p. option_and_then (f p) (v p)) cell old new
computes-applied {m} {n} {cell} {f} {v} {old} {mid} {new} second first = record {
  extends = extends-both second.extends first.extends;
  computes = λ p r cells. by_value p r (v p) (first.computes p r cells);
}
  where
    later : (p : Packet) (r s : Registers) → Keeps cell r s → front new p r ≡ front mid p s → (w : Option ℕ) → Computed w cell p s old mid → Computed w cell p r old new
    later p r s keeps goes None before = goes ∙ before
    later p r s keeps goes (Some n) (t, goes', is, keeps') =
        (t, goes ∙ goes', is, record { cells = keeps'.cells; same = λ k below. keeps'.same k below ∙ keeps.same k below })

    by_value : (p : Packet) (r : Registers) (w : Option ℕ) → Computed w cell p r mid new → Computed (option_and_then (f p) w) cell p r old new
    by_value p r None before = before
    by_value p r (Some n) (s, goes, is, keeps) =
        later p r s keeps goes (f p n) (computed-same (f p s.accumulator) (f p n) cell p s old mid (ap (f p) is) (second.applies p s cell keeps.cells))

-- the left value is kept in a cell while the right one is computed
pub pairs-kept : {m n cell : ℕ} {v w : Packet → Option ℕ} {base mid new : List Insn} → cell < 16
    → Computes n w (cell + 1) (plain_insn 0x07 0 ∷ plain_insn 0x60 cell ∷ base) mid → Computes m v cell (plain_insn 0x02 cell ∷ mid) new
    → Pairs (2 + n + 1 + m) v w cell base new
pairs-kept {m} {n} {cell} {v} {w} {base} {mid} {new} below second first = record {
  extends = extends-both (extends-both (extends-both (extends-both (extends-one (plain_insn 0x60 cell) base) (extends-one (plain_insn 0x07 0) _)) second.extends) (extends-one (plain_insn 0x02 cell) mid)) first.extends;
  pairs = λ p r cells. by_values p r (v p) (w p) (first.computes p r cells) (λ s cells'. second.computes p s cells');
}
  where
    by_values : (p : Packet) (r : Registers) (x y : Option ℕ) → Computed x cell p r (plain_insn 0x02 cell ∷ mid) new
        → ((s : Registers) → HasCells s → Computed y (cell + 1) p s (plain_insn 0x07 0 ∷ plain_insn 0x60 cell ∷ base) mid) → Paired x y cell p r base new
    by_values p r None y first second = first
    by_values p r (Some a) y (s, goes, is, keeps) second =
        let t = with_cell cell s.accumulator s in
        let cells : length (slice_set s.memory cell s.accumulator) ≡ 16 = length-set s.memory cell s.accumulator ∙ keeps.cells in
        by_right y (second t cells)
      where
        by_right : (y : Option ℕ) → Computed y (cell + 1) p (with_cell cell s.accumulator s) (plain_insn 0x07 0 ∷ plain_insn 0x60 cell ∷ base) mid → Paired (Some a) y cell p r base new
        by_right None ends = goes ∙ answer-first (plain_insn 0x02 cell) mid p s _ (store-effect cell p s) ∙ ends
        by_right (Some b) (u, goes', is', keeps') =
            let u1 = with_value Index u.accumulator u in
            let u2 = with_value Accumulator (slice_index u.memory cell) u1 in
            let in_cell : slice_index (slice_set s.memory cell s.accumulator) cell ≡ s.accumulator = let inside : cell < length s.memory = omega (arith, keeps.cells) in rw get_or-set_same in (
              u2,
              goes
                  ∙ answer-first (plain_insn 0x02 cell) mid p s _ (store-effect cell p s)
                  ∙ goes'
                  ∙ answer-first (plain_insn 0x07 0) _ p u _ (tax-effect p u)
                  ∙ answer-first (plain_insn 0x60 cell) base p u1 _ (cell-effect cell p u1),
              keeps'.same cell (omega arith) ∙ in_cell ∙ is,
              is',
              record {
                cells = keeps'.cells;
                same = λ k below'.
                    let other : k ≢ cell = omega arith in
                    let unset : slice_index (slice_set s.memory cell s.accumulator) k ≡ slice_index s.memory k = rw get_or-set_other in
                    keeps'.same k (omega arith) ∙ unset ∙ keeps.same k below';
              },
            )

-- a leaf goes into the index register after the left value
pub pairs-right : {m cell : ℕ} (n : Packet → ℕ) {v : Packet → Option ℕ} {base mid new : List Insn} → Loads Index n base mid → Computes m v cell mid new
    → Pairs (1 + m) v (λ p. Some (n p)) cell base new
pairs-right {m} {cell} n {v} {base} {mid} {new} second first = record {
  extends = extends-both second.extends first.extends;
  pairs = λ p r cells. by_value p r (v p) (first.computes p r cells);
}
  where
    by_value : (p : Packet) (r : Registers) (x : Option ℕ) → Computed x cell p r mid new → Paired x (Some (n p)) cell p r base new
    by_value p r None ends = ends
    by_value p r (Some a) (s, goes, is, keeps) = (with_value Index (n p) s, goes ∙ second.loads p s, is, refl, record { cells = keeps.cells; same = keeps.same })

-- a leaf goes into the accumulator after the right value, which moves on
pub pairs-left : {m cell : ℕ} (n : Packet → ℕ) {w : Packet → Option ℕ} {base mid new : List Insn} → Loads Accumulator n base mid → Computes m w cell (plain_insn 0x07 0 ∷ mid) new
    → Pairs (2 + m) (λ p. Some (n p)) w cell base new
pairs-left {m} {cell} n {w} {base} {mid} {new} second first = record {
  extends = extends-both (extends-both second.extends (extends-one (plain_insn 0x07 0) mid)) first.extends;
  pairs = λ p r cells. by_value p r (w p) (first.computes p r cells);
}
  where
    by_value : (p : Packet) (r : Registers) (x : Option ℕ) → Computed x cell p r (plain_insn 0x07 0 ∷ mid) new → Paired (Some (n p)) x cell p r base new
    by_value p r None ends = ends
    by_value p r (Some b) (s, goes, is, keeps) =
        let t = with_value Index s.accumulator s in (
          with_value Accumulator (n p) t,
          goes ∙ answer-first (plain_insn 0x07 0) mid p s _ (tax-effect p s) ∙ second.loads p t,
          refl,
          is,
          record { cells = keeps.cells; same = keeps.same },
        )

pub pairs-more : {m : ℕ} (n : ℕ) {v w : Packet → Option ℕ} {cell : ℕ} {old new : List Insn} → m ≤ n → Pairs m v w cell old new → Pairs n v w cell old new
pairs-more n more first = record { extends = extends-more n more first.extends; pairs = first.pairs }

pub pairs-same : {m cell : ℕ} (v v' w w' : Packet → Option ℕ) {old new : List Insn} → ((p : Packet) → v p ≡ v' p) → ((p : Packet) → w p ≡ w' p) → Pairs m v w cell old new → Pairs m v' w' cell old new
pairs-same {m} {cell} v v' w w' {old} {new} left right first = record {
  extends = first.extends;
  pairs = λ p r cells.
      subst (λ (x : Option ℕ). Paired x (w' p) cell p r old new) (left p)
      (subst (λ (y : Option ℕ). Paired (v p) y cell p r old new) (right p) (first.pairs p r cells));
}

-- an operator over two values
pub computes-paired : {m cell : ℕ} (o : Operator) {v w : Packet → Option ℕ} {old new : List Insn} → Pairs m v w cell (calculation_insn o operands.Index ∷ old) new
    → Computes (1 + m) (λ p. option_and_then (λ a. option_and_then (λ b. calculated (arithmetic_of o) a b) (w p)) (v p)) cell old new
computes-paired {m} {cell} o {v} {w} {old} {new} pair = record {
  extends = extends-both (extends-one (calculation_insn o operands.Index) old) pair.extends;
  computes = λ p r cells. by_values p r (v p) (w p) (pair.pairs p r cells);
}
  where
    by_result : (p : Packet) (r s : Registers) (a b : ℕ) → front new p r ≡ front (calculation_insn o operands.Index ∷ old) p s → Keeps cell r s → (x : Option ℕ) → calculated (arithmetic_of o) s.accumulator s.index ≡ x → Computed x cell p r old new
    by_result p r s a b goes keeps None is = goes ∙ answer-first (calculation_insn o operands.Index) old p s _ (calculation-effect o operands.Index p s ∙ ap (loaded Accumulator s) is)
    by_result p r s a b goes keeps (Some n) is = (
      with_value Accumulator n s,
      goes ∙ answer-first (calculation_insn o operands.Index) old p s _ (calculation-effect o operands.Index p s ∙ ap (loaded Accumulator s) is),
      refl,
      record { cells = keeps.cells; same = keeps.same },
    )

    by_values : (p : Packet) (r : Registers) (x y : Option ℕ) → Paired x y cell p r (calculation_insn o operands.Index ∷ old) new
        → Computed (option_and_then (λ a. option_and_then (λ b. calculated (arithmetic_of o) a b) y) x) cell p r old new
    by_values p r None y ends = ends
    by_values p r (Some a) None ends = ends
    by_values p r (Some a) (Some b) (s, goes, is, is', keeps) =
        by_result p r s a b goes keeps (calculated (arithmetic_of o) a b) (ap (λ x. calculated (arithmetic_of o) x s.index) is ∙ ap (calculated (arithmetic_of o) a) is')

-- two values, and a choice between the exits by them
pub decides-compared : {k m : ℕ} (f : ℕ → ℕ → Bool) {v w : Packet → Option ℕ} {exits : Exits} {old mid new : List Insn} (entry : ℕ) → AreExits old exits → entry ≡ length new
    → Chooses k (λ r. f r.accumulator r.index) exits old mid → Pairs m v w 0 mid new
    → Decides (k + m) (λ p. check_both f (v p) (w p)) exits entry old new
decides-compared {k} {m} f {v} {w} {exits} {old} {mid} {new} entry are is choice pair = record {
  extends = extends-both choice.extends pair.extends;
  here = (omega (arith, are.0, choice.extends.longer, pair.extends.longer), omega arith);
  decides = λ p a b bytes yes' no'. record {
    always = λ r cells. ap (λ n. run_from new n p r) is ∙ front-place new p r ∙ by_values p a b yes' no' r (v p) (w p) (pair.pairs p r cells);
  };
}
  where
    by_choice : (b : Bool) (k l m n : ℕ) → k ≡ m → l ≡ n → (if b then k else l) ≡ outcome (decided b) m n
    by_choice true k l m n first second = first
    by_choice false k l m n first second = second

    by_values : (p : Packet) (a b : ℕ) → Answers old exits.yes p a → Answers old exits.no p b → (r : Registers) → (x y : Option ℕ) → Paired x y 0 p r mid new → front new p r ≡ outcome (check_both f x y) a b
    by_values p a b yes' no' r None y ends = ends
    by_values p a b yes' no' r (Some n) None ends = ends
    by_values p a b yes' no' r (Some n) (Some o) (s, goes, is', is'', keeps) =
        goes
        ∙ choice.chooses p s
        ∙ by_choice (f s.accumulator s.index) _ _ a b (yes'.always s keeps.cells) (no'.always s keeps.cells)
        ∙ ap (λ i. outcome (decided (f i s.index)) a b) is'
        ∙ ap (λ i. outcome (decided (f n i)) a b) is''

-- a value, and a choice between the exits by it and a constant
pub decides-valued : {k m : ℕ} (f : ℕ → ℕ → Bool) (c : ℕ) {v : Packet → Option ℕ} {exits : Exits} {old mid new : List Insn} (entry : ℕ) → AreExits old exits → entry ≡ length new
    → Chooses k (λ r. f r.accumulator c) exits old mid → Computes m v 0 mid new
    → Decides (k + m) (λ p. check_both f (v p) (Some c)) exits entry old new
decides-valued {k} {m} f c {v} {exits} {old} {mid} {new} entry are is choice computes = record {
  extends = extends-both choice.extends computes.extends;
  here = (omega (arith, are.0, choice.extends.longer, computes.extends.longer), omega arith);
  decides = λ p a b bytes yes' no'. record {
    always = λ r cells. ap (λ n. run_from new n p r) is ∙ front-place new p r ∙ by_value p a b yes' no' r (v p) (computes.computes p r cells);
  };
}
  where
    by_choice : (b : Bool) (k l m n : ℕ) → k ≡ m → l ≡ n → (if b then k else l) ≡ outcome (decided b) m n
    by_choice true k l m n first second = first
    by_choice false k l m n first second = second

    by_value : (p : Packet) (a b : ℕ) → Answers old exits.yes p a → Answers old exits.no p b → (r : Registers) → (x : Option ℕ) → Computed x 0 p r mid new → front new p r ≡ outcome (check_both f x (Some c)) a b
    by_value p a b yes' no' r None ends = ends
    by_value p a b yes' no' r (Some n) (s, goes, is', keeps) =
        goes
        ∙ choice.chooses p s
        ∙ by_choice (f s.accumulator c) _ _ a b (yes'.always s keeps.cells) (no'.always s keeps.cells)
        ∙ ap (λ i. outcome (decided (f i c)) a b) is'

-- an order that is tested by the opposite one
pub not-from : (a b : ℕ) → (if nat_le b a then false else true) ≡ nat_lt a b
not-from a b = by_cases (cases_lt a b)
  where
    by_cases : (a < b) ⊎ (b ≤ a) → (if nat_le b a then false else true) ≡ nat_lt a b
    by_cases (inl below) = grind (arith, nat_tests)
    by_cases (inr from) = grind (arith, nat_tests)

pub not-above : (a b : ℕ) → (if nat_lt b a then false else true) ≡ nat_le a b
not-above a b = by_cases (cases_lt b a)
  where
    by_cases : (b < a) ⊎ (a ≤ b) → (if nat_lt b a then false else true) ≡ nat_le a b
    by_cases (inl above) = grind (arith, nat_tests)
    by_cases (inr upto) = grind (arith, nat_tests)
