use Rattle.std.proofs.Common.{sym}
use Rattle.filter_tree.specs.Trees.{amount_of}
use Rattle.filtergen_code.proofs.Computing.{masked-value}
use Rattle.filtergen_code.proofs.relations.split_mask.Goals as goal

pub returns-in_ok-mask-in-BitAnd-clause-same : goal.returns-in_ok-mask-in-BitAnd-clause-same
returns-in_ok-mask-in-BitAnd-clause-same c =
    let operands = c.in-Binary in
    let is = rw c.deref.ensures at c.in_ok-mask-in-BitAnd.ensures in
    rw (operands.is, c.in-BitAnd.is, c.deref-in-BitAnd.ensures)
    (λ p. masked-value (amount_of operands.left.value) (amount_of operands.right.value) c.in_ok-mask-in-BitAnd.mask p (sym is))
