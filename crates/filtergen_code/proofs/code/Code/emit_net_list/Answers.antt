use Rattle.std.proofs.Common.{◌≡◌, true, sym, arith}
use Rattle.std.proofs.lemmas.Result.{MatchResult-weaker}
use Rattle.filtergen_facts.specs.declared.lists.ValueRange.{ValueRange}
use Rattle.filter_meaning.specs.Meaning.{and_test, is_type, by_direction}
use Rattle.filtergen_facts.specs.Facts.{has_type}
use Rattle.filtergen_facts.specs.Lists.{any_of, direction_of, in_range, of_any_type}
use Rattle.filtergen_code.proofs.Knowing.{type-from}
use Rattle.filtergen_code.proofs.Narrowed.{given-any, given-more, given-same, nets-known}
use Rattle.filtergen_facts.proofs.Joining.{any-same}
use Rattle.filtergen_code.proofs.code.Code.emit_net_list.Goals as goal

pub returns-then-has_type : goal.returns-then-has_type
returns-then-has_type c =
    let ranges = c.args.group.now.ranges.items in
    let d = direction_of c.args.group.now.kind.sides in
    let m = c.args.group.now.kind.mask in
    let known = c.args.context.known in
    let t = λ (x : ValueRange). by_direction d (in_range x m 26) (in_range x m 30) in
    let u = λ (x : ValueRange). by_direction d (in_range x m 28) (in_range x m 38) in
    let typed : has_type known 0x0800 ≡ true = sym c.if-has_type.ensures in
    MatchResult-weaker c.emit_ip_net_list.result c.emit_ip_net_list.ensures
    (λ entry done.
    given-more _ (omega arith)
    (given-same known _ (any_of (λ x. of_any_type (t x) (u x)) ranges)
    (λ p holds. any-same (λ x. and_test (is_type 0x0800) (t x)) (λ x. of_any_type (t x) (u x)) p (λ x. nets-known (t x) (u x) p (type-from known 0x0800 p holds typed)) ranges)
    done))
    (λ e full. omega (arith, full))

pub returns-else-has_type : goal.returns-else-has_type
returns-else-has_type c =
    MatchResult-weaker c.emit_any_net_list.result c.emit_any_net_list.ensures (λ entry done. given-any c.args.context.known done) (λ e full. full)
