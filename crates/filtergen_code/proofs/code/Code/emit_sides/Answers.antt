use Rattle.filtergen_code.proofs.Deciding.{decides-both, decides-either}
use Rattle.filtergen_code.proofs.code.Code.emit_sides.Goals as goal

pub returns-in-SrcOrDst : goal.returns-in-SrcOrDst
returns-in-SrcOrDst c = rw c.in-SrcOrDst.is (decides-either c.requires.ready.1 c.emit_side-next.ensures c.emit_side-in-SrcOrDst.ensures)

pub returns-in-SrcAndDst : goal.returns-in-SrcAndDst
returns-in-SrcAndDst c = rw c.in-SrcAndDst.is (decides-both c.requires.ready.1 c.emit_side-next-in-SrcAndDst.ensures c.emit_side-in-SrcAndDst.ensures)
