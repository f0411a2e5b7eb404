use Rattle.std.proofs.Common.{◌≡◌, true, sym, arith}
use Rattle.std.proofs.lemmas.Result.{MatchResult-weaker}
use Rattle.filter_tree.specs.Trees.{amount_of}
use Rattle.filter_meaning.specs.Meaning.{relation_test}
use Rattle.filtergen_facts.specs.Facts.{begins_with_ip}
use Rattle.filtergen_code.proofs.Bounds.{relation_bound, relation_bound_ip}
use Rattle.filtergen_code.proofs.Knowing.{rest-relation}
use Rattle.filtergen_code.proofs.Leading.{decides_any}
use Rattle.filtergen_code.proofs.Narrowed.{given-rest, given-more}
use Rattle.filtergen_code.proofs.code.Code.emit_relation_given.Goals as goal

pub returns-then-begins_with_ip : goal.returns-then-begins_with_ip
returns-then-begins_with_ip c =
    let left = amount_of c.args.left.now in
    let right = amount_of c.args.right.now in
    let begins : begins_with_ip left ≡ true = sym c.if-begins_with_ip.ensures in
    let bound = relation_bound_ip left right begins in
    MatchResult-weaker c.emit_ip_relation_given.result c.emit_ip_relation_given.ensures (λ entry done. given-more _ bound done) (λ e full. omega (arith, full, bound))

pub returns : goal.returns
returns c =
    let left = amount_of c.args.left.now in
    let right = amount_of c.args.right.now in
    let comparison = c.args.comparison in
    let done = rw c.any_exits-exits.ensures at c.in_ok-place.ensures in
    rw c.at.ensures
    (given-more _ (omega (arith, relation_bound left right))
    (given-rest c.args.context.known (relation_test comparison left right) (λ p holds. rest-relation c.args.context.known comparison left right p holds) (decides_any c.args.context.targets done)))
