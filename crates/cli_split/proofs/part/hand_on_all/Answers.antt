use Rattle.std.proofs.Common.{◌≡◌, ◌+◌, ◌<◌, suc, ap, length, arith, sym, subst}
use Rattle.std.proofs.Math.ListN.{set}
use Rattle.std.proofs.lemmas.List.{take_at}
use Rattle.std.specs.List.{AllZip}
use Rattle.cli_split.specs.Standing.{HasHandedOn, HasTaken}
use Rattle.cli_split.proofs.Lists.{Half, half-all, half-more, half-none}
use Rattle.cli_split.proofs.part.hand_on_all.Goals as goal

pub loop-outlet-init : goal.loop-outlet-init
loop-outlet-init g c = λ order unit packets parts each.
    subst (λ os. Half (HasTaken g.W.Sink.taken g.W.Sink.name g.W.Sink.failures order unit packets) (HasHandedOn g.W.Sink.taken g.W.Sink.name g.W.Sink.failures g.W.GatheringSink.waits order unit packets) parts os 0) (sym c.deref_mut-outlet-items.ensures.value)
    (half-none (HasTaken g.W.Sink.taken g.W.Sink.name g.W.Sink.failures order unit packets) (HasHandedOn g.W.Sink.taken g.W.Sink.name g.W.Sink.failures g.W.GatheringSink.waits order unit packets) parts c.args.outlets.now.items each)

pub loop-outlet-preserved : goal.loop-outlet-preserved
loop-outlet-preserved g c = λ order unit packets parts each.
    let T = g.W.Sink.taken in
    let N = g.W.Sink.name in
    let F = g.W.Sink.failures in
    let x = c.outlet-item.result in
    let i = c.loop-outlet.outlet-index in
    let h : i < length c.loop-outlet.outlet-items = omega (arith, c.loop-outlet-test.true, c.deref_mut-outlet-items.ensures.len) in
    let next : suc i ≡ i + 1 = omega arith in
    subst (λ k. Half (HasTaken T N F order unit packets) (HasHandedOn T N F g.W.GatheringSink.waits order unit packets) parts (set c.loop-outlet.outlet-items i c.hand_on.new.outlet) k) next
    (half-more (HasTaken T N F order unit packets) (HasHandedOn T N F g.W.GatheringSink.waits order unit packets) parts c.loop-outlet.outlet-items i x c.hand_on.new.outlet
    (c.loop-outlet.invariant order unit packets parts each) h
    (λ part stands. c.hand_on.ensures order unit packets part stands))

pub returns : goal.returns
returns g c = λ order unit packets parts each.
    subst (λ os. AllZip (HasHandedOn g.W.Sink.taken g.W.Sink.name g.W.Sink.failures g.W.GatheringSink.waits order unit packets) parts os) (sym (take_at c.loop-outlet.outlet-items _ _ (omega (arith, c.loop-outlet.auto.outlet-items, ap length c.deref_mut-outlet-items.ensures.value, c.args.outlets.now.ok))))
    (half-all (HasTaken g.W.Sink.taken g.W.Sink.name g.W.Sink.failures order unit packets) (HasHandedOn g.W.Sink.taken g.W.Sink.name g.W.Sink.failures g.W.GatheringSink.waits order unit packets) parts c.loop-outlet.outlet-items _
    (c.loop-outlet.invariant order unit packets parts each) (omega (arith, c.loop-outlet-test.false, c.deref_mut-outlet-items.ensures.len)))
