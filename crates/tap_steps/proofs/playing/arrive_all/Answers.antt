use Rattle.std.proofs.Common.{◌<◌, length, ap, sym, ◌∙◌, arith}
use Rattle.std.proofs.Math.ListN.{set}
use Rattle.std.proofs.lemmas.List.Edits.{map_over_more}
use Rattle.tap_steps.specs.Watching.{arrived_at}
use Rattle.tap_steps.proofs.Counting.{fit_at}
use Rattle.tap_steps.proofs.Owns.{rest_at}
use Rattle.tap_steps.proofs.playing.arrive_all.Goals as goal

pub arrive-requires : goal.arrive-requires
arrive-requires c =
    let ws = c.args.watched.now.items in
    let h : c.loop-one.one-index < length ws = omega (arith, c.loop-one-test.true, c.deref_mut-one-items.ensures.len) in
    let g = rest_at (arrived_at c.args.placed.now) ws c.loop-one.one-items c.loop-one.one-index c.one-item.result h c.loop-one.invariant c.one-item.is in
    let f = fit_at 1 ws c.loop-one.one-index c.one-item.result c.requires h g in
    omega (arith, f, ap (λ v. v.listener.list.received) (sym c.one-item.is))

pub loop-one-preserved : goal.loop-one-preserved
loop-one-preserved c =
    let ws = c.args.watched.now.items in
    let h : c.loop-one.one-index < length ws = omega (arith, c.loop-one-test.true, c.deref_mut-one-items.ensures.len) in
    ap (λ w. set c.loop-one.one-items c.loop-one.one-index w) (c.in_ok-arrive.ensures ∙ ap (arrived_at c.args.placed.now) (sym c.one-item.is))
    ∙ map_over_more (arrived_at c.args.placed.now) ws c.loop-one.one-items c.loop-one.one-index c.one-item.result h c.loop-one.invariant c.one-item.is
