use Rattle.std.proofs.Common.{◌<◌, length, ap, sym, ◌∙◌, arith}
use Rattle.std.proofs.Math.ListN.{set}
use Rattle.std.proofs.lemmas.List.Edits.{map_over_more}
use Rattle.tap_text.specs.Answers.{advanced}
use Rattle.tap_text.proofs.answers.advance_all.Goals as goal

pub loop-one-preserved : goal.loop-one-preserved
loop-one-preserved c =
    let xs = c.args.all.now.items in
    let h : c.loop-one.one-index < length xs = omega (arith, c.loop-one-test.true, c.deref_mut-one-items.ensures.len) in
    ap (λ x. set c.loop-one.one-items c.loop-one.one-index x) (c.advance.ensures ∙ ap (advanced c.args.n) (sym c.one-item.is))
    ∙ map_over_more (advanced c.args.n) xs c.loop-one.one-items c.loop-one.one-index c.one-item.result h c.loop-one.invariant c.one-item.is
