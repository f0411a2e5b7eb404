use Rattle.savefile.proofs.Filling.{fills}
use Rattle.savefile.proofs.writing.fill_u16.Goals as goal

pub returns : goal.returns
returns g c = fills c.args.at 2 c.args.text.now (g.B.ByteOrder.bytes_of 2 c.args.n) c.write_u16.new.buf (g.met.B.ByteOrder.length_bytes 2 c.args.n) c.write_u16.ensures
