use Rattle.std.proofs.Common.{arith}
use Rattle.filter_tree.specs.Trees.{amount_of}
use Rattle.filter_meaning.specs.Meaning.{compared}
use Rattle.filtergen_code.proofs.Bounds.{value_positive}
use Rattle.filtergen_code.proofs.Computing.{decides-valued, field-checked}
use Rattle.filtergen_code.proofs.Deciding.{decides-more, decides-same}
use Rattle.filtergen_code.proofs.code.Code.emit_number_comparison.Goals as goal

pub returns-in-Some : goal.returns-in-Some
returns-in-Some c =
    decides-more _ (omega (arith, value_positive (amount_of c.args.amount.now)))
    (decides-same _ _ (λ p bytes. field-checked (compared c.args.comparison) c.args.n _ _ (c.in-Some.ensures p)) c.emit_field_comparison.ensures)

pub returns : goal.returns
returns c = decides-valued (compared c.args.comparison) c.args.n c.len.result c.requires.exits c.len.ensures.value c.emit_comparison.ensures c.in_ok-emit_value.ensures
