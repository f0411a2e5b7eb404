use Rattle.std.proofs.Common.{sym, ◌∙◌, arith}
use Rattle.listener.specs.Messages.{arrival}
use Rattle.replay.specs.Lines.{line_of}
use Rattle.replay.specs.Rings.{ring_of}
use Rattle.replay.proofs.Asked.{arrivals-asked, flushed-more, not-flushed, same-line}
use Rattle.replay.proofs.replaying_thread.give.Goals as goal

pub arrive_ref-fed-requires-clause-room : goal.arrive_ref-fed-requires-clause-room
arrive_ref-fed-requires-clause-room c = let few = arrivals-asked c.args.slot.now.feeder.feeds in omega (arith, few, c.requires.room)

pub returns-then-is_due : goal.returns-then-is_due
returns-then-is_due c =
    let old = c.args.slot.now.feeder in
    let p = c.args.placed.now in
    let a = c.arrive_ref-fed.ensures in
    let f = c.flush-flushed.ensures in
    same-line c.args.slot.now.flush_every (ring_of c.args.slot.now.rest_in.end) _ _ _ _ _ _ _ _ _ _ (f.same.pair ∙ a.same.pair) (f.same.profile ∙ a.same.profile)
    (f.same.program ∙ a.same.program) (f.same.snap ∙ a.same.snap)
    (flushed-more (line_of c.args.slot.now).asking p.n (arrival p.capture p.place p.packet.now) old.feeds c.arrive_ref-fed.new.self.feeds c.flush-flushed.new.self.feeds c.arrive_ref-fed.result c.flush-flushed.result
    f.call.call a.call f.call.feeds f.call.answer (sym c.is_due.ensures ∙ c.if-is_due.true))

pub returns-else-is_due : goal.returns-else-is_due
returns-else-is_due c =
    let old = c.args.slot.now.feeder in
    let p = c.args.placed.now in
    let a = c.arrive_ref-fed.ensures in
    same-line c.args.slot.now.flush_every (ring_of c.args.slot.now.rest_in.end) _ _ _ _ _ _ _ _ _ _ a.same.pair a.same.profile a.same.program a.same.snap
    (not-flushed (line_of c.args.slot.now).asking p.n (arrival p.capture p.place p.packet.now) old.feeds c.arrive_ref-fed.new.self.feeds c.arrive_ref-fed.result
    a.call (sym c.is_due.ensures ∙ c.if-is_due.false))
