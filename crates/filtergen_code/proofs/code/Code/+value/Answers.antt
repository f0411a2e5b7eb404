use Rattle.std.proofs.Common.{◌≡◌, Some, arith, refl, sym}
use Rattle.std.proofs.lemmas.Result.{MatchResult-weaker}
use Rattle.bpfvm.specs.Codes.{Subtract}
use Rattle.bpfvm.specs.Machine.{calculated}
use Rattle.filter_tree.specs.Trees.{amount_of}
use Rattle.filtergen_code.specs.declared.insns.Operand.TheVariants as operands
use Rattle.filter_meaning.specs.Meaning.{arithmetic_of, bytes_of, value}
use Rattle.filtergen_code.specs.Insns.{plain_insn, calculation_insn}
use Rattle.filtergen_code.specs.Parts.{constant_of, leaf_value}
use Rattle.filtergen_code.proofs.Computing.{applies-one, computes-loaded, computes-applied, computes-paired, computes-more, computes-same, computes-constant, constant-after, index-known, pairs-right, pairs-left, pairs-kept, pairs-more, pairs-same, negate-effect, calculation-effect, leaf-valued, read-accessed}
use Rattle.filtergen_code.proofs.code.Code.+value.Goals as goal

pub emit_value-returns-in-Some : goal.emit_value-returns-in-Some
emit_value-returns-in-Some t c = computes-constant (amount_of c.args.amount.now) c.in-Some.n c.args.cell (sym c.in-Some.ensures) c.emit_leaf.ensures

pub emit_pair-returns-in-Some : goal.emit_pair-returns-in-Some
emit_pair-returns-in-Some t c =
    let leaf = c.in-Some.leaf in
    let right = amount_of c.args.right.now in
    MatchResult-weaker c.emit_value.result c.emit_value.ensures
    (λ x done. pairs-same _ _ (λ p. Some (leaf_value leaf p)) (value right) (λ p. refl) (λ p. sym (leaf-valued leaf right c.in-Some.ensures p)) (pairs-more _ (omega arith) (pairs-right (leaf_value leaf) c.emit_index_leaf.ensures done)))
    (λ e full. omega (arith, full, c.emit_index_leaf.ensures.extends.within))

pub emit_pair-returns-in-Some-leaf_of : goal.emit_pair-returns-in-Some-leaf_of
emit_pair-returns-in-Some-leaf_of t c =
    let leaf = c.in-Some-leaf_of.leaf in
    let left = amount_of c.args.left.now in
    let right = rw c.emit_plain.ensures at c.emit_variable.ensures in
    MatchResult-weaker c.emit_variable.result right
    (λ x done. pairs-same (λ p. Some (leaf_value leaf p)) (value left) _ _ (λ p. sym (leaf-valued leaf left c.in-Some-leaf_of.ensures p)) (λ p. refl) (pairs-more _ (omega arith) (pairs-left (leaf_value leaf) c.emit_leaf.ensures done)))
    (λ e full. omega (arith, full, c.emit_leaf.ensures.extends.within))

pub emit_pair-returns : goal.emit_pair-returns
emit_pair-returns t c =
    let right = rw (c.emit_plain-3.ensures, c.emit_plain-2.ensures) at c.in_ok-emit_variable.ensures in
    let left = rw c.emit_plain-4.ensures at c.emit_variable-3.ensures in
    MatchResult-weaker c.emit_variable-3.result left
    (λ x done. pairs-kept (omega (arith, c.requires)) right done)
    (λ e full. omega (arith, full, right.extends.within))

pub emit_variable-returns-in_ok-room-in-Number : goal.emit_variable-returns-in_ok-room-in-Number
emit_variable-returns-in_ok-room-in-Number t c = rw c.in-Number.is (computes-loaded (λ p. c.in-Number.n) c.args.cell c.emit_leaf.ensures)

pub emit_variable-returns-in_ok-room-in-Length : goal.emit_variable-returns-in_ok-room-in-Length
emit_variable-returns-in_ok-room-in-Length t c = rw c.in-Length.is (computes-loaded (λ p. p.wire) c.args.cell c.emit_leaf-in-Length.ensures)

pub emit_variable-returns-in_ok-room-in-Negation : goal.emit_variable-returns-in_ok-room-in-Negation
emit_variable-returns-in_ok-room-in-Negation t c =
    let inner = rw (c.emit_plain.ensures, c.deref.ensures) at c.emit_variable.ensures in
    let here = applies-one (plain_insn 0x84 0) (λ p. calculated Subtract 0) c.args.self.now (λ p r. negate-effect p r) in
    rw c.in-Negation.is (MatchResult-weaker c.emit_variable.result inner (λ x done. computes-applied here done) (λ e full. omega (arith, full)))

pub emit_variable-returns-in-Some : goal.emit_variable-returns-in-Some
emit_variable-returns-in-Some t c =
    let o = c.in-Binary.operator in
    let n = c.in-Some.n in
    let left = amount_of c.in-Binary.left.value in
    let right = amount_of c.in-Binary.right.value in
    let constant : constant_of right ≡ Some n = rw c.deref-in-Binary.ensures at c.in-Some.ensures.0 in
    let inner = rw (c.emit_calculation.ensures, c.deref-in-Some.ensures) at c.emit_variable-in-Some.ensures in
    let here = applies-one (calculation_insn o (operands.Constant n)) (λ p a. calculated (arithmetic_of o) a n) c.args.self.now (λ p r. calculation-effect o (operands.Constant n) p r) in
    rw c.in-Binary.is
    (MatchResult-weaker c.emit_variable-in-Some.result inner
    (λ x done. computes-same _ _ (λ p. constant-after o left right n p constant) (computes-more _ (omega arith) (computes-applied here done)))
    (λ e full. omega (arith, full)))

pub emit_variable-returns-in_default : goal.emit_variable-returns-in_default
emit_variable-returns-in_default t c =
    let both = rw (c.emit_calculation-in-Binary.ensures, c.deref-in-Binary-2.ensures, c.deref-in-Binary-3.ensures) at c.emit_pair.ensures in
    rw c.in-Binary.is (MatchResult-weaker c.emit_pair.result both (λ x done. computes-paired c.in-Binary.operator done) (λ e full. omega (arith, full)))

pub emit_variable-returns-in-Some-constant_index : goal.emit_variable-returns-in-Some-constant_index
emit_variable-returns-in-Some-constant_index t c =
    let n = c.in-Some-constant_index.n in
    let size = bytes_of c.in-Accessor.size in
    let layer = c.in-Accessor.layer in
    let index = amount_of c.in-Accessor.index.value in
    let constant : constant_of index ≡ Some n = rw c.deref-in-Accessor.ensures at c.in-Some-constant_index.ensures.0 in
    let read = rw (c.base_of-base.ensures, read-accessed layer size) at (c.emit_access_at.ensures c.args.cell) in
    rw c.in-Accessor.is (computes-more _ (omega arith) (computes-same _ _ (λ p. index-known layer size index n p constant) read))

pub emit_variable-returns-in_default-constant_index : goal.emit_variable-returns-in_default-constant_index
emit_variable-returns-in_default-constant_index t c =
    let inner = rw c.deref-in-Accessor-2.ensures at c.emit_value.ensures in
    let here = rw (c.base_of-base.ensures, read-accessed c.in-Accessor.layer (bytes_of c.in-Accessor.size)) at c.emit_access.ensures in
    rw c.in-Accessor.is (MatchResult-weaker c.emit_value.result inner (λ x done. computes-applied here done) (λ e full. omega (arith, full, here.extends.within)))
