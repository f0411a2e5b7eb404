use Rattle.std.proofs.Common.{◌∙◌, arith, length-set, true}
use Rattle.filtergen_trim.proofs.Reached.{next-inside, next-sound, next-count_marked, marks-begin, marks-skip, marks-all}
use Rattle.filtergen_trim.proofs.unreached.mark_reached.Goals as goal
use Rattle.filtergen_trim.proofs.unreached.mark_reached.Goals.{then-marks-place, else-marks-place}

pub onward_of-requires : goal.onward_of-requires
onward_of-requires c = next-sound c.args.insns.now c.loop-place.place _ c.requires.code c.loop-place-test.true

pub mark_next-requires : goal.mark_next-requires
mark_next-requires c = λ n may.
    let below = next-inside c.args.insns.now c.loop-place.place n _ c.onward_of.result c.requires.code c.loop-place-test.true c.onward_of.ensures may in
    omega (arith, c.loop-place.invariant.size, c.requires.room)

pub loop-place-preserved : goal.loop-place-preserved
loop-place-preserved c =
    elim c.if-marks-place.branch [
      | then-marks-place w ↦ record {
        size = rw w.marks-is (w.mark_next.ensures.size ∙ c.loop-place.invariant.size);
        marks = rw w.marks-is (next-count_marked c.args.insns.now c.loop-place.place _ w.onward_of.result c.loop-place.marks _ c.requires.code c.loop-place-test.true w.onward_of.ensures w.if-marks-place.true c.loop-place.invariant.marks w.mark_next.ensures);
      }
      | else-marks-place w ↦ record {
        size = rw w.marks-is c.loop-place.invariant.size;
        marks = rw w.marks-is (marks-skip c.args.insns.now c.loop-place.place c.loop-place.marks w.if-marks-place.false c.loop-place.invariant.marks);
      }
    ]

pub loop-place-init : goal.loop-place-init
loop-place-init c = record {
  size = length-set c.args.marks.now 0 true;
  marks = marks-begin c.args.insns.now c.args.marks.now c.requires.code.some c.requires.room c.requires.clear;
}

pub returns-clause-marks : goal.returns-clause-marks
returns-clause-marks c = marks-all c.args.insns.now c.loop-place.place _ c.loop-place-test.false c.loop-place.invariant.marks
