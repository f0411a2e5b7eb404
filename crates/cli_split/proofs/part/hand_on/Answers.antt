use Rattle.cli_split.proofs.Standings.{stands-flushed}
use Rattle.cli_split.proofs.part.hand_on.Goals as goal

pub returns : goal.returns
returns g c = λ order unit packets part stands. (
  stands-flushed g.W.Sink.taken g.W.Sink.name g.W.Sink.failures order unit packets part c.args.outlet.now c.hand_on.new.self c.hand_on.ensures.same c.hand_on.ensures.bytes c.hand_on.ensures.failures c.hand_on.ensures.named stands,
  c.hand_on.ensures.handed_on,
)
