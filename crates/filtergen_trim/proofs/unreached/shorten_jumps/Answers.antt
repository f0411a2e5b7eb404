use Rattle.std.proofs.Common.{refl, inl, inr}
use Rattle.filtergen_trim.proofs.unreached.shorten_jumps.Goals as goal

pub count_marked-requires : goal.count_marked-requires
count_marked-requires c = (rw (← c.in-Jump.ensures) at c.requires.inside) c.in-Jump.passed refl

pub count_marked-requires-in-Either : goal.count_marked-requires-in-Either
count_marked-requires-in-Either c = rw c.from.ensures ((rw (← c.in-Either.ensures) at c.requires.inside) c.in-Either.jt (inl refl))

pub count_marked-requires-in-Either-2 : goal.count_marked-requires-in-Either-2
count_marked-requires-in-Either-2 c = rw c.from-in-Either.ensures ((rw (← c.in-Either.ensures) at c.requires.inside) c.in-Either.jf (inr refl))
