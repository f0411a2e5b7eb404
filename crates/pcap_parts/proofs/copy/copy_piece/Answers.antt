use Rattle.std.proofs.Common.{arith, length-take, take}
use Rattle.pcap_parts.proofs.copy.copy_piece.Goals as goal

pub returns-in-Ok-write_text-clause-copied : goal.returns-in-Ok-write_text-clause-copied
returns-in-Ok-write_text-clause-copied g c =
    let came = c.in-Ok.came in
    (take came c.read.new.to, c.in-Ok.ensures.bytes.0, c.in-Ok-write_text.ensures.whole, omega (arith, length-take came c.read.new.to, c.in-Ok.ensures.count))
