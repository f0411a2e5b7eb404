use Rattle.std.proofs.Common.{sym, ap, ◌∙◌, subst}
use Rattle.handover.specs.Rule.{profile_of}
use Rattle.replay.specs.Reports.{IsReported}
use Rattle.replay_types.specs.declared.task.Task.{Task}
use Rattle.replay.proofs.Rings.{ring_of_same}
use Rattle.replay.proofs.reporting.report_task.Goals as goal

pub settled-requires-clause-pair : goal.settled-requires-clause-pair
settled-requires-clause-pair g c = (c.requires.pair.0, c.in_ok-done.ensures.pair ∙ c.requires.pair.1)

pub settled-requires-clause-profile : goal.settled-requires-clause-profile
settled-requires-clause-profile g c = c.requires.profile ∙ ap (λ (t : Task _). profile_of t.capacity t.mode) (sym c.in_ok-done.ensures.task)

pub settled-requires-clause-ring : goal.settled-requires-clause-ring
settled-requires-clause-ring g c =
    c.requires.ring ∙ ring_of_same c.args.threads.writer.promise.rest.value.end c.in_ok-done.done.write.rest.end c.in_ok-done.ensures.rest.0

pub settled-requires-clause-timely : goal.settled-requires-clause-timely
settled-requires-clause-timely g c = c.requires.timely

pub settled-requires-clause-done : goal.settled-requires-clause-done
settled-requires-clause-done g c = c.in_ok-done.ensures.done

pub returns-clause-report : goal.returns-clause-report
returns-clause-report g c =
    let feeds = c.args.ending.feed.feeds in
    let r = c.settled.result in
    subst (λ ts. IsReported g.W.Sink.taken g.W.Sink.failures c.args.threads.task.value feeds ts r) (sym c.settled.ensures.past.2)
    (subst (λ (t : Task _). IsReported g.W.Sink.taken g.W.Sink.failures t feeds c.in_ok-done.done.read.drain.takes r) c.in_ok-done.ensures.task c.settled.ensures.report)

pub returns-clause-past : goal.returns-clause-past
returns-clause-past g c = (c.settled.ensures.past.0 ∙ c.in_ok-done.ensures.pair, c.settled.ensures.past.1, c.settled.ensures.past.3)
