use Rattle.std.proofs.Common.{refl}
use Rattle.savefile.specs.Savefile.{header_text}
use Rattle.savefile.proofs.Filling.{filled_24}
use Rattle.savefile.proofs.writing.file_header_in.Goals as goal

pub returns : goal.returns
unfolding header_text
returns g c = λ order is.
    let long = g.met.B.ByteOrder.length_bytes in
    rw (← is, ← c.magic.ensures)
    (filled_24 _ _ _ _ _ _ _ _ _ _ _ _ _ _ _ refl (long 4 _) (long 2 _) (long 2 _) (long 4 _) (long 4 _) (long 4 _) (long 4 _)
    c.fill_u32.ensures c.fill_u16.ensures c.fill_u16-2.ensures c.fill_u32-2.ensures c.fill_u32-3.ensures c.fill_u32-4.ensures c.fill_u32-5.ensures)
