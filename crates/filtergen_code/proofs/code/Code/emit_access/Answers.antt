use Rattle.std.proofs.Common.{arith}
use Rattle.filtergen_code.specs.declared.values.Base.TheVariants as bases
use Rattle.filter_meaning.specs.Meaning.{bytes_of}
use Rattle.filtergen_code.specs.Parts.{read_from}
use Rattle.filtergen_code.proofs.Computing.{applies-indirect, applies-transport, applies-more, frame-same, network-same}
use Rattle.filtergen_code.proofs.code.Code.emit_access.Goals as goal

pub returns-in-Frame : goal.returns-in-Frame
returns-in-Frame c =
    let s = c.args.size in
    rw (c.in-Frame.is, c.emit_indirect_load.ensures) (applies-more 4 (omega arith) (applies-indirect s 0 (read_from bases.Frame (bytes_of s)) c.args.self.now (frame-same s)))

pub returns-in-Network : goal.returns-in-Network
returns-in-Network c =
    let s = c.args.size in
    rw (c.in-Network.is, c.emit_indirect_load-in-Network.ensures) (applies-more 4 (omega arith) (applies-indirect s 14 (read_from bases.Network (bytes_of s)) c.args.self.now (network-same s)))

pub returns-in-Transport : goal.returns-in-Transport
returns-in-Transport c =
    rw (c.in-Transport.is, c.emit_plain-in-Transport.ensures, c.emit_plain.ensures, c.emit_indirect_load-in-Transport.ensures) (applies-transport c.args.size c.args.self.now)
