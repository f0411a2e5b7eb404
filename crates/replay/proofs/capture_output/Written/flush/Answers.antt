use Rattle.std.proofs.Common.{refl}
use Rattle.replay.proofs.Writes.{still-written}
use Rattle.replay.proofs.capture_output.Written.flush.Goals as goal

pub returns : goal.returns
returns g c = λ output messages t.
    let same = c.flush.ensures.same in
    still-written g.W.Sink.taken g.W.Sink.failures output messages c.args.self.now _ c.if-not-self.false t c.if-not-self.false refl
    same.0 same.1 same.2 same.3 c.flush.ensures.bytes c.flush.ensures.failures
