use Rattle.handover.proofs.Paths.{flushed_nothing}
use Rattle.handover.proofs.stand.Stand.flush_nothing.Goals as goal

pub returns : goal.returns
returns c =
    let w = flushed_nothing _ _ c.args.self.now.store _ c.requires.stand.feeder c.see_closed.ensures.step c.see_closed.ensures.own c.requires.store in
    record { call = w.call; answer = w.answer; made = record { pair = c.see_closed.ensures.pair; went = w.went; order = c.see_closed.ensures.order } }
