use Rattle.std.proofs.Common.{◌≡◌, false, sym}
use Rattle.filtergen_facts.specs.Facts.{has_first_fragment}
use Rattle.filtergen_code.proofs.Deciding.{decides-both}
use Rattle.filtergen_code.proofs.code.Code.emit_rest_of_fragment.Goals as goal

pub returns : goal.returns
returns c =
    let left : has_first_fragment c.args.known c.args.number ≡ false = sym c.if-has_first_fragment.ensures in
    rw left (decides-both c.requires.1 c.emit_fragment_test-next.ensures c.emit_rest_of_protocol.ensures)
