use Rattle.std.proofs.Common.{arith}
use Rattle.filtergen_code.proofs.Following.{follows-more}
use Rattle.filtergen_code.proofs.Sides.{follows-one-port, follows-either-port, follows-both-ports}
use Rattle.filtergen_code.proofs.code.Code.emit_port_sides.Goals as goal

pub returns-in-Src-clause-test : goal.returns-in-Src-clause-test
returns-in-Src-clause-test c = rw c.in-Src.is (follows-more 14 _ (omega arith) (follows-one-port 0 c.args.ports.low c.args.ports.high c.requires.1 c.emit_port.ensures))

pub returns-in-Dst-clause-test : goal.returns-in-Dst-clause-test
returns-in-Dst-clause-test c = rw c.in-Dst.is (follows-more 14 _ (omega arith) (follows-one-port 2 c.args.ports.low c.args.ports.high c.requires.1 c.emit_port-in-Dst.ensures))

pub returns-in-SrcOrDst-clause-test : goal.returns-in-SrcOrDst-clause-test
returns-in-SrcOrDst-clause-test c =
    rw c.in-SrcOrDst.is
    (follows-either-port c.args.ports.low c.args.ports.high c.requires.1 (follows-one-port 2 c.args.ports.low c.args.ports.high c.requires.1 c.emit_port-next.ensures) c.emit_port-in-SrcOrDst.ensures)

pub returns-in-SrcAndDst-clause-test : goal.returns-in-SrcAndDst-clause-test
returns-in-SrcAndDst-clause-test c =
    rw c.in-SrcAndDst.is
    (follows-both-ports c.args.ports.low c.args.ports.high c.requires.1 (follows-one-port 2 c.args.ports.low c.args.ports.high c.requires.1 c.emit_port-next-in-SrcAndDst.ensures) c.emit_port-in-SrcAndDst.ensures)
