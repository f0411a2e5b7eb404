use Rattle.std.proofs.Common.{false}
use Rattle.handover.proofs.Feeders.{counted_flush, fields_after, own_run}
use Rattle.handover.specs.Rule.{known}
use Rattle.handover.proofs.feeder.Feeder.flush.Goals as goal

pub invariant_of-self : goal.invariant_of-self
invariant_of-self c =
    let w = c.flush_nothing.ensures in
    let m = known c.self.inside.stand.seat.me in
    let counted = counted_flush _ w.call m.0.feeds c.self.inside.counts w.answer c.self.invariant.3 in
    fields_after m _ c.self.inside.stand.store _ w.call _ c.self.inside.snap c.self.inside.mode c.self.inside.counts c.self.invariant.0 c.self.invariant.1 c.self.invariant.2 w.made.went counted

pub returns-then-is_empty-clause-own : goal.returns-then-is_empty-clause-own
returns-then-is_empty-clause-own c = own_run _ _ _ _ _ _ false c.flush_nothing.ensures.made.went.feeder

pub invariant_of-self-else-is_empty : goal.invariant_of-self-else-is_empty
invariant_of-self-else-is_empty c =
    let w = c.flush_store.ensures in
    let m = known c.self.inside.stand.seat.me in
    let counted = counted_flush _ w.call m.0.feeds c.self.inside.counts w.answer c.self.invariant.3 in
    fields_after m _ c.self.inside.stand.store _ w.call _ c.self.inside.snap c.self.inside.mode c.self.inside.counts c.self.invariant.0 c.self.invariant.1 c.self.invariant.2 w.made.went counted

pub returns-else-is_empty-clause-own : goal.returns-else-is_empty-clause-own
returns-else-is_empty-clause-own c = own_run _ _ _ _ _ _ false c.flush_store.ensures.made.went.feeder
