use Rattle.std.proofs.Common.{refl}
use Rattle.savefile.proofs.Filling.{filled_16}
use Rattle.savefile.proofs.writing.record_header_in.Goals as goal

pub returns : goal.returns
returns g c = λ order is.
    let long = g.met.B.ByteOrder.length_bytes 4 in
    rw (← is)
    (filled_16 _ _ _ _ _ _ _ _ _ refl (long _) (long _) (long _) (long _) c.fill_u32.ensures c.fill_u32-2.ensures c.fill_u32-3.ensures c.fill_u32-4.ensures)
