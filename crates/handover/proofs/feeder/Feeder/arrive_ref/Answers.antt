use Rattle.std.proofs.Common.{false, Some, None, ap, ◌∙◌, arith}
use Rattle.listener.specs.Messages.{arrival, cut_to}
use Rattle.handover.specs.declared.calls.Feed.TheVariants.{Arrive}
use Rattle.handover.proofs.Feeders.{fields_after, matches_most, drops_most, offered, own_run}
use Rattle.handover.specs.Rule.{known}
use Rattle.handover.proofs.feeder.Feeder.arrive_ref.Goals as goal

pub count-requires-clause-ordered : goal.count-requires-clause-ordered
count-requires-clause-ordered c =
    let k = c.self.invariant.3 in
    let fs = c.self.inside.stand.seat.me.0.view.feeds in
    (omega (arith, k.all_received, k.all_matched, matches_most fs), omega (arith, k.all_dropped, k.all_matched, drops_most fs))

pub count-requires-2-clause-ordered : goal.count-requires-2-clause-ordered
count-requires-2-clause-ordered c =
    let k = c.self.invariant.3 in
    let fs = c.self.inside.stand.seat.me.0.view.feeds in
    (omega (arith, k.all_received, k.all_matched, matches_most fs), omega (arith, k.all_dropped, k.all_matched, drops_most fs))

pub pass-requires : goal.pass-requires
pass-requires c = record { pair = ap (λ f. f.pair) c.self.view_is ∙ c.requires.pair; feeder = c.self.invariant.0 }

pub take-requires : goal.take-requires
take-requires c =
    let kept = c.in-Some.ensures.kept c.args.capture c.args.place in (
      offered _ c.self.inside.stand c.self.inside.snap c.self.inside.program _ (record { pair = ap (λ f. f.pair) c.self.view_is ∙ c.requires.pair; feeder = c.self.invariant.0 })
          c.self.invariant.1 kept,
      c.self.invariant.2,
    )

pub invariant_of-self : goal.invariant_of-self
invariant_of-self c =
    let w = c.pass.ensures.went in
    let m = known c.self.inside.stand.seat.me in
    let counted = c.count.ensures.counts m.0.feeds None c.self.invariant.3 in
    fields_after m _ c.self.inside.stand.store _ (Arrive None c.pass.result) _ c.self.inside.snap c.self.inside.mode _ c.self.invariant.0 c.self.invariant.1 c.self.invariant.2 w counted

pub returns-in_default-clause-own : goal.returns-in_default-clause-own
returns-in_default-clause-own c = own_run _ _ _ _ _ _ false c.pass.ensures.went.feeder

pub invariant_of-self-2 : goal.invariant_of-self-2
invariant_of-self-2 c =
    let w = c.take.ensures.went in
    let m = known c.self.inside.stand.seat.me in
    let x = Some (cut_to c.in-Some.kept (arrival c.args.capture c.args.place c.args.packet.now)) in
    let counted = c.count-2.ensures.counts m.0.feeds x c.self.invariant.3 in
    fields_after m _ c.self.inside.stand.store _ (Arrive x c.take.result) _ c.self.inside.snap c.self.inside.mode _ c.self.invariant.0 c.self.invariant.1 c.self.invariant.2 w counted

pub returns-clause-own : goal.returns-clause-own
returns-clause-own c = own_run _ _ _ _ _ _ false c.take.ensures.went.feeder
