use Rattle.std.proofs.Common.{refl}
use Rattle.cli_split.proofs.Standings.{written-of}
use Rattle.cli_split.proofs.part.close.Goals as goal

pub returns : goal.returns
returns g c = λ order unit packets part stands.
    written-of g.W.Sink.taken g.W.Sink.name g.W.Sink.failures order unit packets part c.args.outlet _ c.close-sink.ensures.sink c.close-sink.ensures.sent refl refl stands
