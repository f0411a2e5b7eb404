use Rattle.std.proofs.Common.{arith, refl}
use Rattle.filtergen_trim.proofs.Reached.{next-inside, next-sound, after-inside, kept-step, pushed-length, skip-step, kept-all}
use Rattle.filtergen_trim.proofs.unreached.keep_marked.Goals as goal
use Rattle.filtergen_trim.proofs.unreached.keep_marked.Goals.{then-marks-place, else-marks-place}

pub shorten_jumps-requires-clause-sound : goal.shorten_jumps-requires-clause-sound
shorten_jumps-requires-clause-sound c = next-sound c.args.insns.now c.loop-place.place _ c.requires.code c.loop-place-test.true

pub shorten_jumps-requires-clause-inside : goal.shorten_jumps-requires-clause-inside
shorten_jumps-requires-clause-inside c = λ n may.
    let below = next-inside c.args.insns.now c.loop-place.place n _ _ c.requires.code c.loop-place-test.true refl may in
    after-inside c.args.marks.now c.loop-place.place n (omega (arith, c.requires.room))

pub loop-place-preserved : goal.loop-place-preserved
loop-place-preserved c =
    elim c.if-marks-place.branch [
      | then-marks-place w ↦ record {
        within = rw w.kept-is (omega (arith, pushed-length _ _ w.shorten_jumps.result w.push.ensures.items, c.loop-place.invariant.within));
        whole = rw w.kept-is (kept-step c.args.marks.now c.args.insns.now c.loop-place.kept.items _ _ c.loop-place.place _ w.shorten_jumps.result c.loop-place-test.true (omega (arith, c.loop-place-test.true, c.requires.room)) w.if-marks-place.true w.shorten_jumps.ensures w.push.ensures.items c.loop-place.invariant.whole);
      }
      | else-marks-place w ↦ record {
        within = rw w.kept-is (omega (arith, c.loop-place.invariant.within));
        whole = rw w.kept-is (skip-step c.args.marks.now c.args.insns.now c.loop-place.kept.items _ c.loop-place.place c.loop-place-test.true (omega (arith, c.loop-place-test.true, c.requires.room)) w.if-marks-place.false c.loop-place.invariant.whole);
      }
    ]

pub returns : goal.returns
returns c = kept-all c.args.marks.now c.args.insns.now c.loop-place.kept.items _ c.loop-place.place c.loop-place-test.false c.loop-place.invariant.whole
