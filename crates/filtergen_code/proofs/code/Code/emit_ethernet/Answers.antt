use Rattle.std.proofs.Common.{arith}
use Rattle.filter_meaning.specs.Meaning.{is_address, address_number}
use Rattle.filtergen_code.proofs.Deciding.{decides-both, decides-same}
use Rattle.filtergen_code.proofs.Tails.{six-parted}
use Rattle.filtergen_code.proofs.code.Code.emit_ethernet.Goals as goal

pub returns : goal.returns
returns c =
    let o = c.args.offset in
    let octets = c.args.address.octets in
    decides-same _ (is_address octets o)
    (λ p bytes. six-parted o c.from-high.result c.from_be_bytes-low.result (address_number octets) p bytes (omega (arith, c.from_be_bytes-low.type_inv)) (omega (arith, c.from-high.ensures, c.from_be_bytes.ensures, c.from_be_bytes-low.ensures)))
    (decides-both c.requires.ready.1 c.emit_test-next.ensures c.emit_test.ensures)
