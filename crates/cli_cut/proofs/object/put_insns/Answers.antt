use Rattle.std.proofs.Common.{◌≡◌, [], drop, append-nil, arith, refl}
use Rattle.std.proofs.lemmas.List.{drop_all}
use Rattle.cli_cut.proofs.Elements.{one-more}
use Rattle.cli_cut.proofs.object.put_insns.Goals as goal

pub loop-place-init : goal.loop-place-init
loop-place-init c = refl

pub loop-place-preserved : goal.loop-place-preserved
loop-place-preserved c = one-more _ _ _ c.args.insns.now c.loop-place.place _ c.loop-place-test.true c.loop-place.invariant c.in_ok-put_element.ensures

pub returns : goal.returns
returns c =
    let none : drop c.loop-place.place c.args.insns.now ≡ [] = drop_all c.loop-place.place c.args.insns.now (omega arith) in
    rw (none, append-nil) at c.loop-place.invariant
