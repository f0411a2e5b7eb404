use Rattle.std.proofs.Common.{◌+◌, ◌<◌, length, refl, arith, inl, inr, true, length-set}
use Rattle.filtergen_trim.proofs.unreached.mark_next.Goals as goal

pub overflow_add-marks : goal.overflow_add-marks
overflow_add-marks c = let inside = rw c.in-Next.is at c.requires in let below : c.args.place + 1 + 0 < length c.args.marks.now = inside 0 refl in omega arith

pub bounds-marks-place : goal.bounds-marks-place
bounds-marks-place c = let inside = rw c.in-Next.is at c.requires in let below : c.args.place + 1 + 0 < length c.args.marks.now = inside 0 refl in omega arith

pub overflow_add-marks-in-Jump : goal.overflow_add-marks-in-Jump
overflow_add-marks-in-Jump c = let inside = rw c.in-Jump.is at c.requires in let below = inside c.in-Jump.passed refl in omega arith

pub overflow_add-marks-in-Jump-2 : goal.overflow_add-marks-in-Jump-2
overflow_add-marks-in-Jump-2 c = let inside = rw c.in-Jump.is at c.requires in let below = inside c.in-Jump.passed refl in omega arith

pub bounds-marks-place-in-Jump : goal.bounds-marks-place-in-Jump
bounds-marks-place-in-Jump c = (rw c.in-Jump.is at c.requires) c.in-Jump.passed refl

pub overflow_add-marks-in-Either : goal.overflow_add-marks-in-Either
overflow_add-marks-in-Either c = let inside = rw c.in-Either.is at c.requires in let below = inside c.in-Either.jt (inl refl) in omega arith

pub overflow_add-marks-in-Either-2 : goal.overflow_add-marks-in-Either-2
overflow_add-marks-in-Either-2 c = let inside = rw c.in-Either.is at c.requires in let below = inside c.in-Either.jt (inl refl) in omega (arith, c.from.ensures)

pub bounds-marks-place-in-Either : goal.bounds-marks-place-in-Either
bounds-marks-place-in-Either c = let inside = rw c.in-Either.is at c.requires in let below = inside c.in-Either.jt (inl refl) in omega (arith, c.from.ensures)

pub overflow_add-marks-in-Either-3 : goal.overflow_add-marks-in-Either-3
overflow_add-marks-in-Either-3 c = let inside = rw c.in-Either.is at c.requires in let below = inside c.in-Either.jf (inr refl) in omega arith

pub overflow_add-marks-in-Either-4 : goal.overflow_add-marks-in-Either-4
overflow_add-marks-in-Either-4 c = let inside = rw c.in-Either.is at c.requires in let below = inside c.in-Either.jf (inr refl) in omega (arith, c.from-in-Either.ensures)

pub bounds-marks-place-in-Either-2 : goal.bounds-marks-place-in-Either-2
bounds-marks-place-in-Either-2 c =
    let inside = rw c.in-Either.is at c.requires in let below = inside c.in-Either.jf (inr refl) in
    let size = length-set c.args.marks.now (c.args.place + 1 + c.from.result) true in omega (arith, c.from-in-Either.ensures, size)
