use Rattle.std.proofs.Common.{false, arith, sym, ap, subst, ◌∙◌}
use Rattle.handover.specs.Ends.{HasOwnRun}
use Rattle.handover.proofs.Feeders.{own_run}
use Rattle.handover.proofs.Steps.{sets_ended}
use Rattle.handover.specs.Rule.{known}
use Rattle.handover.proofs.feeder.Feeder.end.Goals as goal

pub store-requires : goal.store-requires
store-requires c = (ap (λ d. d.pair) c.self.view_is ∙ c.requires ∙ sym c.link.view_is, omega arith, sets_ended _ _ _ _ c.self.invariant.0.role c.self.invariant.0.ended)

pub returns-clause-own : goal.returns-clause-own
returns-clause-own c =
    let f = c.self.inside in
    subst HasOwnRun c.self.view_is (own_run f.stand.seat.table_id f.program f.snap (known f.stand.seat.me) f.stand.seat.me.0.feeder_saw f.stand.store false c.self.invariant.0)
