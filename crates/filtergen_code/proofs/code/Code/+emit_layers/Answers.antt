use Rattle.std.proofs.Common.{◌≡◌, true, sym, ◌∙◌, arith}
use Rattle.std.specs.Option.{is_some}
use Rattle.std.proofs.lemmas.Result.{MatchResult-weaker}
use Rattle.filter_tree.specs.Trees.{amount_of, binary}
use Rattle.filtergen_code.specs.Remaining.{rest_of_layers}
use Rattle.filtergen_code.specs.Parts.{constant_of}
use Rattle.filtergen_code.proofs.Computing.{constant-right}
use Rattle.filtergen_code.proofs.Deciding.{decides-both, decides-more, decides-same}
use Rattle.filtergen_code.proofs.code.Code.+emit_layers.Goals as goal

pub returns-then-is_some : goal.returns-then-is_some
returns-then-is_some t c =
    let known = c.args.known in
    let operator = c.in-Binary.field-0 in
    let left = amount_of c.in-Binary.left.value in
    let right = amount_of c.in-Binary.right.value in
    let found = rw (c.constant.ensures, c.deref-in-Binary.ensures) at c.is_some.ensures in
    let is : is_some (constant_of right) ≡ true = sym found ∙ c.if-is_some.true in
    let done = rw c.deref-then-is_some.ensures at c.emit_layers-then-is_some.ensures in
    rw c.in-Binary.is
    (MatchResult-weaker c.emit_layers-then-is_some.result done
    (λ entry done'. decides-same (rest_of_layers known left) (rest_of_layers known (binary operator left right)) (λ p bytes. constant-right known operator left right p is) (decides-more _ (omega arith) done'))
    (λ e full. omega (arith, full)))

pub returns-in_ok-next-in-Binary : goal.returns-in_ok-next-in-Binary
returns-in_ok-next-in-Binary t c =
    let right = rw (c.after_layers.ensures, c.deref-in-Binary-2.ensures, c.deref-in-Binary-3.ensures) at c.in_ok-next-in-Binary.ensures in
    let left = rw c.deref-in-Binary-4.ensures at c.emit_layers-in-Binary-2.ensures in
    rw c.in-Binary.is
    (MatchResult-weaker c.emit_layers-in-Binary-2.result left (λ entry done. decides-both c.requires right done) (λ e full. omega (arith, full, right.extends.within)))

pub returns-in_ok-room-in-Accessor : goal.returns-in_ok-room-in-Accessor
returns-in_ok-room-in-Accessor t c =
    let index = rw (c.with_fact.ensures, c.deref-in-Accessor.ensures, c.of_layer-fact.ensures) at c.in_ok-next-in-Accessor.ensures in
    let layer = rw c.of_layer-fact.ensures at c.emit_rest_of.ensures in
    rw c.in-Accessor.is (decides-both c.requires index layer)
