use Rattle.cli_split.specs.Standing.{HasHandedOn, HasTaken}
use Rattle.cli_split.proofs.Lists.{zip-weaker}
use Rattle.cli_split.proofs.split.Splitter.advance_flushed.Goals as goal

pub returns-clause-written : goal.returns-clause-written
returns-clause-written g c = λ order unit packets parts has.
    let T = g.W.Sink.taken in
    let N = g.W.Sink.name in
    let F = g.W.Sink.failures in (
      has.0,
      has.1,
      zip-weaker (HasHandedOn T N F g.W.GatheringSink.waits order unit packets) (HasTaken T N F order unit packets) (λ part outlet handed. handed.0)
          parts c.hand_on_all.new.outlets.items (c.hand_on_all.ensures order unit packets parts has.2),
    )

pub returns-clause-handed_on : goal.returns-clause-handed_on
returns-clause-handed_on g c = λ asked order unit packets parts has. c.hand_on_all.ensures order unit packets parts has.2
