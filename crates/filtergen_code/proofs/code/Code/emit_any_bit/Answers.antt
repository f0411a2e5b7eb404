use Rattle.std.proofs.Common.{◌∙◌, arith}
use Rattle.bpfvm.specs.Codes.{AnyBit}
use Rattle.bpfvm.specs.Machine.{holds}
use Rattle.filter_tree.specs.Trees.{amount_of}
use Rattle.filter_meaning.specs.Meaning.{value}
use Rattle.filtergen_code.proofs.Bounds.{value_positive}
use Rattle.filtergen_code.proofs.Computing.{bits-any, decides-valued, field-checked}
use Rattle.filtergen_code.proofs.Deciding.{decides-more, decides-same}
use Rattle.filtergen_code.proofs.code.Code.emit_any_bit.Goals as goal

pub returns-in-Some : goal.returns-in-Some
returns-in-Some c =
    let amount = amount_of c.args.amount.now in
    let mask = c.args.mask in
    decides-more _ (omega (arith, value_positive amount))
    (decides-same _ _ (λ p bytes. field-checked (holds AnyBit) mask _ _ (c.in-Some.ensures p) ∙ bits-any mask (value amount p)) c.emit_test.ensures)

pub returns : goal.returns
returns c =
    let mask = c.args.mask in
    decides-same _ _ (λ p bytes. bits-any mask (value (amount_of c.args.amount.now) p))
    (decides-valued (holds AnyBit) mask c.len.result c.requires.exits c.len.ensures.value c.emit_branch.ensures c.in_ok-emit_value.ensures)
