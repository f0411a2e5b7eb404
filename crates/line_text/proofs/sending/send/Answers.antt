use Rattle.std.proofs.Common.{arith}
use Rattle.line_text.proofs.Left.{IsLeft-slice}
use Rattle.line_text.proofs.sending.send.Goals as goal

pub loop-rest-preserved-in-Ok : goal.loop-rest-preserved-in-Ok
loop-rest-preserved-in-Ok g c =
    IsLeft-slice _ _ _ _ c.loop-rest.rest.now c.in-Ok.taken (omega (arith, c.in-Ok.ensures.bound)) c.loop-rest.invariant c.in-Ok.ensures.bytes
