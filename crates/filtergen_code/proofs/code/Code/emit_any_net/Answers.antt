use Rattle.filtergen_code.specs.declared.insns.Field.TheVariants as fields
use Rattle.filter_meaning.specs.Meaning.{by_direction, has_address}
use Rattle.filtergen_code.proofs.Growing.{load-sound}
use Rattle.filtergen_code.proofs.Nets.{decides-any-net}
use Rattle.filtergen_code.proofs.code.Code.emit_any_net.Goals as goal

pub emit-requires-clause-sound : goal.emit-requires-clause-sound
emit-requires-clause-sound c = rw c.load_insn.ensures (load-sound (fields.Half 12) _)

pub returns : goal.returns
returns c =
    let d = c.args.net.direction in
    let a = c.args.net.address in
    let m = c.args.net.mask in
    let arp = rw c.other_exits-exits.ensures at c.emit_addresses-next.ensures in
    let rarp-jump = rw c.other_exits-exits.ensures at c.emit_branch.ensures in
    let ip = rw c.ip_exits.ensures at c.emit_addresses-yes.ensures in
    rw (c.at-entry.ensures, c.len.ensures.value, c.emit.ensures, c.load_insn.ensures)
    (decides-any-net (by_direction d (has_address a m 26) (has_address a m 30)) (by_direction d (has_address a m 28) (has_address a m 38)) c.args.targets c.requires.1 arp c.len-no.ensures.value c.len-no-2.ensures.value rarp-jump c.emit_branch-2.ensures ip c.emit_branch-3.ensures)
