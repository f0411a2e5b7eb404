use Rattle.std.proofs.Common.{◌+◌, arith}
use Rattle.filtergen_code.proofs.Computing.{computes-absolute, computes-after, computes-more}
use Rattle.filtergen_code.proofs.code.Code.emit_access_at.Goals as goal

pub returns-in-Frame : goal.returns-in-Frame
returns-in-Frame c = λ cell. rw (c.in-Frame.is, c.emit_plain.ensures, c.absolute_code.ensures) (computes-more 2 (omega arith) (computes-absolute c.args.size c.args.index cell c.args.self.now))

pub returns-in-Network : goal.returns-in-Network
returns-in-Network c = λ cell. rw (c.in-Network.is, c.emit_plain-in-Network.ensures, c.absolute_code-in-Network.ensures) (computes-more 2 (omega arith) (computes-absolute c.args.size (14 + c.args.index) cell c.args.self.now))

pub returns-in-Transport : goal.returns-in-Transport
returns-in-Transport c = λ cell.
    let near = c.requires.near in
    rw (c.in-Transport.is, c.emit_plain-in-Transport-2.ensures, c.emit_plain-in-Transport.ensures, c.indirect_code.ensures)
    (computes-after c.args.size c.args.index cell c.args.self.now (rw c.in-Transport.is at near))
