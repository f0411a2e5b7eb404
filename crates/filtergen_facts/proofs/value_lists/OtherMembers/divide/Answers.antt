use Rattle.std.proofs.Common.{◌<◌, length, arith}
use Rattle.std.proofs.lemmas.List.{length-take, take_all}
use Rattle.filtergen_facts.proofs.Dividing.{divides-none, divides-more, divides-past}
use Rattle.filtergen_facts.proofs.value_lists.OtherMembers.divide.Goals.{then-is, else-is}
use Rattle.filtergen_facts.proofs.value_lists.OtherMembers.divide.Goals as goal

pub loop-member-preserved : goal.loop-member-preserved
loop-member-preserved c =
    let items = c.as_slice-member-items.result.now in
    let i = c.loop-member.member-index in
    elim c.if-is.branch [
      | then-is w ↦ rw (w.ranges-is, w.others-is) (divides-more c.args.kind items i _ _ _ _ c.loop-member-test.true w.if-is.ensures.same w.push.ensures.items c.loop-member.invariant)
      | else-is w ↦ rw (w.ranges-is, w.others-is) (divides-past c.args.kind items i _ _ _ _ c.loop-member-test.true w.if-is.ensures.differ w.push-else-is.ensures.items c.loop-member.invariant)
    ]

pub loop-member-init : goal.loop-member-init
loop-member-init c = rw (c.new-ranges.ensures, c.new-others.ensures) (divides-none c.args.kind)

pub push-requires : goal.push-requires
push-requires c =
    let items = c.as_slice-member-items.result.now in
    let i = c.loop-member.member-index in
    let fits = c.as_slice-member-items.ensures.fits in
    let room : length c.loop-member.ranges.items < 512 = omega (arith, length-take i items, fits, c.loop-member-test.true, c.loop-member.invariant.together) in
    (omega arith, room)

pub push-requires-else-is : goal.push-requires-else-is
push-requires-else-is c =
    let items = c.as_slice-member-items.result.now in
    let i = c.loop-member.member-index in
    let fits = c.as_slice-member-items.ensures.fits in
    let room : length c.loop-member.others.items < 512 = omega (arith, length-take i items, fits, c.loop-member-test.true, c.loop-member.invariant.together) in
    (omega arith, room)

pub returns : goal.returns
returns c =
    let whole = take_all c.loop-member.member-index c.as_slice-member-items.result.now c.loop-member-test.false in
    rw (← c.as_slice-member-items.ensures.value) (rw whole at c.loop-member.invariant)
