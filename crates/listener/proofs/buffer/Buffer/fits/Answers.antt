use Rattle.std.proofs.Common.{arith}
use Rattle.std.proofs.Common.{◌-◌}
use Rattle.std.proofs.lemmas.Bool.{leb-true, le-leb}
use Rattle.listener.proofs.Decoding.{room_is}
use Rattle.listener.proofs.buffer.Buffer.fits.Goals as goal

pub returns : goal.returns
returns c =
    let r = room_is c.self.inside.bytes.items c.self.invariant.records in
    rw (← c.self.view_is) (
      (λ t. omega (arith, r, c.len.ensures, c.size.ensures, c.self.invariant.within, leb-true _ _ t)),
      (λ h. le-leb c.size.result (c.self.inside.capacity - c.len.result) (omega (arith, r, c.len.ensures, c.size.ensures, h))),
    )
