use Rattle.std.proofs.Common.{false, ap, subst, ◌∙◌}
use Rattle.handover.specs.Ends.{Feeding, HasOwnRun, AreCountsOf, own_list}
use Rattle.handover.specs.Own.{received_in, matched_in, dropped_in}
use Rattle.handover.proofs.Feeders.{own_counts, own_run}
use Rattle.handover.specs.Rule.{known}
use Rattle.handover.proofs.feeder.Feeder.counts.Goals as goal

pub returns-clause-own : goal.returns-clause-own
returns-clause-own c =
    let k = own_counts c.self.inside.stand.seat.me.0.view c.self.inside.counts c.self.invariant.0.owned c.self.invariant.3 in
    subst (λ (f : Feeding). AreCountsOf c.self.inside.counts (own_list f.feeds)) c.self.view_is k

pub returns-clause-received : goal.returns-clause-received
returns-clause-received c = c.self.invariant.3.all_received ∙ ap (λ f. received_in f.feeds) c.self.view_is

pub returns-clause-matched : goal.returns-clause-matched
returns-clause-matched c = c.self.invariant.3.all_matched ∙ ap (λ f. matched_in f.feeds) c.self.view_is

pub returns-clause-dropped : goal.returns-clause-dropped
returns-clause-dropped c = c.self.invariant.3.all_dropped ∙ ap (λ f. dropped_in f.feeds) c.self.view_is

pub returns-clause-run : goal.returns-clause-run
returns-clause-run c =
    let f = c.self.inside in
    subst HasOwnRun c.self.view_is (own_run f.stand.seat.table_id f.program f.snap (known f.stand.seat.me) f.stand.seat.me.0.feeder_saw f.stand.store false c.self.invariant.0)
