use Rattle.std.proofs.Common.{Some, ap, sym, arith}
use Rattle.std.proofs.lemmas.Result.{MatchResult-weaker}
use Rattle.filter_tree.specs.Trees.{amount_of}
use Rattle.filter_meaning.specs.Meaning.{compared, check_both, value}
use Rattle.filtergen_code.proofs.Computing.{constant-value, decides-compared}
use Rattle.filtergen_code.proofs.Deciding.{decides-more, decides-same}
use Rattle.filtergen_code.proofs.code.Code.emit_value_comparison.Goals as goal

pub returns-in-Some : goal.returns-in-Some
returns-in-Some c =
    let f = compared c.args.comparison in
    let left = amount_of c.args.left.now in
    let right = amount_of c.args.right.now in
    let n = c.in-Some.n in
    MatchResult-weaker c.emit_constant_comparison.result c.emit_constant_comparison.ensures
    (λ entry done.
    decides-same (λ p. check_both f (value left p) (Some n)) (λ p. check_both f (value left p) (value right p))
    (λ p bytes. ap (check_both f (value left p)) (sym (constant-value right n p (sym c.in-Some.ensures))))
    (decides-more _ (omega arith) done))
    (λ e full. omega (arith, full))

pub returns : goal.returns
returns c = decides-compared (compared c.args.comparison) c.len.result c.requires.exits c.len.ensures.value c.emit_comparison.ensures c.in_ok-emit_pair.ensures
