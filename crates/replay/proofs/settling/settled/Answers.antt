use Rattle.std.proofs.Common.{◌≡◌, List, sym, ◌∙◌, subst, IfSome, Option, Some, None}
use Rattle.rtrb.specs.Ring.{all_sent, known_items, received, sent, IsFinishedOf}
use Rattle.listener.specs.declared.message.Message.{Message}
use Rattle.handover.specs.History.{LegalHistory, batches_of, merge}
use Rattle.handover.specs.Rule.{terms_of}
use Rattle.handover.specs.Settling.{IsWhole}
use Rattle.replay.specs.Reading.{messages_of}
use Rattle.replay.specs.Reports.{kept_for}
use Rattle.replay.specs.Tasks.{output_of}
use Rattle.replay.specs.Writing.{IsTimely, Writes}
use Rattle.std.proofs.lemmas.Option.{IfSome_then}
use Rattle.replay.proofs.Rings.{in-order, same-of-ring}
use Rattle.replay.proofs.Settles.{chain, unfinished, finished}
use Rattle.replay.proofs.Timely.{all-of-contained, as-they-are}
use Rattle.std.proofs.lemmas.List.Elements.{All-contains}
use Rattle.replay.proofs.settling.settled.Goals as goal

pub left_in-requires-clause-full : goal.left_in-requires-clause-full
left_in-requires-clause-full g c = IfSome_then c.args.done.read.finished c.requires.done.pushed (λ f p. p.0)

pub left_in-requires-clause-rest : goal.left_in-requires-clause-rest
left_in-requires-clause-rest g c = same-of-ring c.args.ending.rest_in.end c.args.done.write.rest.end c.requires.ring

pub returns-in_default-clause-report : goal.returns-in_default-clause-report
returns-in_default-clause-report g c =
    let d = c.args.done in
    let feed = c.args.ending.feed in
    let s = c.settle_bare-hold.ensures in
    let told = c.report.ensures in
    let whole = subst (λ p. IsWhole p feed.feeds d.read.drain.takes c.settle_bare-hold.result.hold.messages feed.store c.settle_bare-hold.result.counts) c.requires.profile s.whole in
    unfinished g.W.Sink.taken g.W.Sink.failures d.task.value feed.feeds d.read.drain.takes c.report.result c.settle_bare-hold.result.counts
    c.settle_bare-hold.result.hold.messages feed.store
    (subst (λ p. LegalHistory (terms_of p) feed.feeds d.read.drain.takes (merge feed.feeds d.read.drain.takes)) c.requires.profile s.history)
    s.counts.0 s.counts.1
    whole
    told.counts d.write.written told.sink
    (as-they-are _ (all-of-contained (λ (m : Message). IsTimely m.nanos) _ (λ m here. All-contains (λ (m : Message). IsTimely m.nanos) _ m c.requires.timely (whole.accepted m here)))) _ c.requires.done.writes told.end

pub returns-clause-report : goal.returns-clause-report
returns-clause-report g c =
    let d = c.args.done in
    let feed = c.args.ending.feed in
    let T = g.W.Sink.taken in
    let F = g.W.Sink.failures in
    let s = c.settle_bare-hold.ensures in
    let told = c.report-2.ensures in
    let hold = c.settle_bare-hold.result.hold.messages in
    let whole = subst (λ p. IsWhole p feed.feeds d.read.drain.takes hold feed.store c.settle_bare-hold.result.counts) c.requires.profile s.whole in
    let (f, is, fifo, count) = c.in-Some.ensures.full in
    let (rest-fifo, rest-count) = c.in-Some.ensures.rest in
    let (same, rest-same) = c.left_in.ensures.popped in
    let full' = c.left_in.new.full in
    let rest' = c.left_in.new.rest in
    let pushed = subst (λ o. IfSome o (λ f. IsFinishedOf f d.write.full × (messages_of (all_sent f) ≡ batches_of d.read.drain.takes))) is c.requires.done.pushed in
    let read = chain (received d.write.full) (received full') (known_items full') (all_sent f) (batches_of d.read.drain.takes) hold feed.store
    (kept_for d.task.value feed.feeds d.read.drain.takes) whole.whole pushed.1 fifo same in
    let all = in-order (received d.write.full) (received d.write.rest) (known_items full') (received rest') (known_items rest') (sent c.args.ending.rest_in) hold feed.store
    (kept_for d.task.value feed.feeds d.read.drain.takes) c.in-Some.left.read c.in-Some.left.rest read c.args.ending.pushed rest-fifo rest-same count rest-count c.in-Some.ensures.order in
    let o = output_of d.task.value in
    let one = c.write_left.ensures o _ c.requires.done.writes in
    let two = c.put_all.ensures o _ one in
    let three = c.write_left-2.ensures o _ two in
    let four = c.flush.ensures o _ three in
    let w = c.flush.new.self in
    finished T F d.task.value feed.feeds d.read.drain.takes c.report-2.result c.settle_bare-hold.result.counts hold feed.store
    (subst (λ p. LegalHistory (terms_of p) feed.feeds d.read.drain.takes (merge feed.feeds d.read.drain.takes)) c.requires.profile s.history)
    s.counts.0 s.counts.1 whole told.counts w told.sink
    (as-they-are _ (all-of-contained (λ (m : Message). IsTimely m.nanos) _ (λ m here. All-contains (λ (m : Message). IsTimely m.nanos) _ m c.requires.timely (whole.accepted m here))))
    (subst (λ (ms : List Message). Writes T F o ms w) all four)
    (λ e. let ends = c.end_of-end.ensures.clean (sym told.end ∙ e) in (ends.1, whole.unclosed (c.requires.done.ended ends.0)))
    (λ n e. let breaks = c.end_of-end.ensures.broke n (sym told.end ∙ e) in (breaks.0, breaks.1 ∙ c.sent.ensures))

pub returns-clause-handed_over : goal.returns-clause-handed_over
returns-clause-handed_over g c = λ none. let (f, is, fifo, count) = c.in-Some.ensures.full in let clash = sym is ∙ none in absurd cc
