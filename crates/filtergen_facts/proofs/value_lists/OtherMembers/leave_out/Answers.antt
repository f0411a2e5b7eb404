use Rattle.std.proofs.Common.{◌<◌, length, arith}
use Rattle.std.proofs.lemmas.List.{length-take, take_all}
use Rattle.filtergen_facts.proofs.Leaving.{leaves-more, leaves-past}
use Rattle.filtergen_facts.proofs.value_lists.OtherMembers.leave_out.Goals.{then-not-is_included, else-not-is_included}
use Rattle.filtergen_facts.proofs.value_lists.OtherMembers.leave_out.Goals as goal

pub loop-member-preserved : goal.loop-member-preserved
loop-member-preserved c =
    let items = c.as_slice-member-items.result.now in
    let i = c.loop-member.member-index in
    elim c.if-not-is_included.branch [
      | then-not-is_included w ↦ rw w.kept-is (leaves-more c.args.kind c.args.ranges.now items i _ _ _ c.loop-member-test.true w.push.ensures.items c.loop-member.invariant)
      | else-not-is_included w ↦ rw w.kept-is (leaves-past c.args.kind c.args.ranges.now items i _ _ c.loop-member-test.true w.if-not-is_included.ensures c.loop-member.invariant)
    ]

pub push-requires : goal.push-requires
push-requires c =
    let items = c.as_slice-member-items.result.now in
    let i = c.loop-member.member-index in
    let fits = c.as_slice-member-items.ensures.fits in
    let room : length c.loop-member.kept.items < 512 = omega (arith, length-take i items, fits, c.loop-member-test.true, c.loop-member.invariant.fewer) in
    (omega arith, room)

pub returns : goal.returns
returns c =
    let whole = take_all c.loop-member.member-index c.as_slice-member-items.result.now c.loop-member-test.false in
    rw (← c.as_slice-member-items.ensures.value) (rw whole at c.loop-member.invariant)
