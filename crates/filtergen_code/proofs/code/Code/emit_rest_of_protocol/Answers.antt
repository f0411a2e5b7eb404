use Rattle.std.proofs.Common.{◌≡◌, false, sym}
use Rattle.filtergen_facts.specs.Facts.{has_protocol}
use Rattle.filtergen_code.proofs.Deciding.{decides-both}
use Rattle.filtergen_code.proofs.code.Code.emit_rest_of_protocol.Goals as goal

pub returns : goal.returns
returns c =
    let left : has_protocol c.args.known c.args.number ≡ false = sym c.if-has_protocol.ensures in
    rw left (decides-both c.requires.1 c.emit_protocol_number-next.ensures c.emit_rest_of_type.ensures)
