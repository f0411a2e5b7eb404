use Rattle.std.proofs.Common.{◌==◌, if◌then◌else◌, true}
use Rattle.filtergen_code.specs.declared.insns.Field.TheVariants as fields
use Rattle.filter_meaning.specs.Meaning.{byte}
use Rattle.filtergen_code.specs.Parts.{has_tcp_or_udp_number}
use Rattle.filtergen_code.proofs.Growing.{load-sound}
use Rattle.filtergen_code.proofs.Runs.{load-effect}
use Rattle.filtergen_code.specs.Insns.{load_insn}
use Rattle.filtergen_code.proofs.Deciding.{decides-tested, decides-same}
use Rattle.filtergen_code.proofs.Sharing.{two_numbers}
use Rattle.filtergen_code.proofs.code.Code.emit_tcp_or_udp.Goals as goal

pub emit-requires-clause-sound : goal.emit-requires-clause-sound
emit-requires-clause-sound c = rw c.load_insn-load.ensures (load-sound (fields.Byte 23) _)

pub returns : goal.returns
returns c =
    let passed = rw c.load_insn-load.ensures at c.exits_after-exits.ensures in
    rw (c.len.ensures.value, c.emit.ensures, c.load_insn-load.ensures)
    (decides-same _ has_tcp_or_udp_number (λ p bytes. two_numbers (byte 23 p) (λ b. b == 6) (λ b. b == 17))
    (decides-tested (load_insn (fields.Byte 23)) (byte 23) (λ b. if b == 6 then true else b == 17) (load-effect (fields.Byte 23)) passed.yes passed.no c.emit_tcp_or_udp_branch.ensures))
