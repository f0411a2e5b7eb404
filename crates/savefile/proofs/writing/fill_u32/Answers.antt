use Rattle.savefile.proofs.Filling.{fills}
use Rattle.savefile.proofs.writing.fill_u32.Goals as goal

pub returns : goal.returns
returns g c = fills c.args.at 4 c.args.text.now (g.B.ByteOrder.bytes_of 4 c.args.n) c.write_u32.new.buf (g.met.B.ByteOrder.length_bytes 4 c.args.n) c.write_u32.ensures
