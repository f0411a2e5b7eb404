use Rattle.std.proofs.Common.{[], ◌∷◌, arith, ap}
use Rattle.listener.specs.declared.answer.Counts.{Counts}
use Rattle.listener.specs.declared.answer.Fed.TheVariants.{Closed}
use Rattle.handover.specs.declared.calls.Feed.TheVariants.{Arrive}
use Rattle.handover.proofs.Feeders.{counted_more, counted_passed, counted_kept, counted_dropped}
use Rattle.handover.proofs.feeder.count.Goals as goal
use Rattle.handover.proofs.feeder.count.Goals.{in-Passed, in-Stored, in-Dropped}

pub returns-in-Closed-clause-counts : goal.returns-in-Closed-clause-counts
returns-in-Closed-clause-counts c fs m k = rw c.in-Closed.is (counted_more c.args.counts.now c.args.counts.now fs (Arrive m Closed ∷ []) (omega arith) (omega arith) (omega arith) k)

pub returns-clause-counts : goal.returns-clause-counts
returns-clause-counts c fs m k = elim c.match-fed.branch [
  | in-Passed w ↦ counted_passed c.args.counts.now _ fs m c.args.fed w.in-Passed.is (omega (arith, ap (λ (k : Counts). k.received) w.counts-is)) (omega (arith, ap (λ (k : Counts). k.matched) w.counts-is)) (omega (arith, ap (λ (k : Counts). k.dropped) w.counts-is)) k
  | in-Stored w ↦ counted_kept c.args.counts.now _ fs m c.args.fed w.in-Stored.is (omega (arith, ap (λ (k : Counts). k.received) w.counts-is)) (omega (arith, ap (λ (k : Counts). k.matched) w.counts-is)) (omega (arith, ap (λ (k : Counts). k.dropped) w.counts-is)) k
  | in-Dropped w ↦ counted_dropped c.args.counts.now _ fs m c.args.fed w.in-Dropped.is (omega (arith, ap (λ (k : Counts). k.received) w.counts-is)) (omega (arith, ap (λ (k : Counts). k.matched) w.counts-is)) (omega (arith, ap (λ (k : Counts). k.dropped) w.counts-is)) k
]
