use Rattle.std.proofs.Common.{◌≡◌, ◌++◌, List, ℕ, inl, refl, subst}
use Rattle.savefile.specs.Savefile.{packet, record_text}
use Rattle.bpftap_c.specs.Captures.{order_of, unit_of}
use Rattle.bpftap_c.specs.Memory.{Puts}
use Rattle.bpftap_c.proofs.captures.bpftap_put.Goals as goal

pub returns : goal.returns
unfolding record_text
returns c =
    let p = c.args.packet.now in
    let bytes = c.args.bytes.now in
    let text = record_text (order_of c.args.order) (unit_of c.args.unit) (packet p.seconds p.nanos p.wire bytes) in
    let same : c.record_header-header.result ++ bytes ≡ text = rw (c.record_header-header.ensures, c.order_of.ensures, c.unit_of.ensures) refl in
    inl (
      c.if-bytes.false,
      c.if-packet-ge1000000000.false,
      subst (λ (t : List ℕ). Puts t c.args.to.now c.put_both.new.to c.put_both.result) same c.put_both.ensures,
    )
