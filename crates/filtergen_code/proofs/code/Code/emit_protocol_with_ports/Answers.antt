use Rattle.std.proofs.Common.{ℕ, ◌==◌, Bool, if◌then◌else◌, true, ap, ◌∙◌}
use Rattle.filtergen_code.specs.declared.insns.Field.TheVariants as fields
use Rattle.filtergen_code.specs.Insns.{load_insn}
use Rattle.filtergen_code.specs.Emission.{AreExits}
use Rattle.filter_meaning.specs.Meaning.{or_else, check, byte}
use Rattle.filtergen_code.specs.Parts.{has_port_number}
use Rattle.filtergen_code.proofs.Growing.{load-sound}
use Rattle.filtergen_code.proofs.Runs.{load-effect, chooses-either}
use Rattle.filtergen_code.proofs.Deciding.{decides-tested, decides-same}
use Rattle.filtergen_code.proofs.Sharing.{two_numbers}
use Rattle.filtergen_code.proofs.code.Code.emit_protocol_with_ports.Goals as goal

pub emit-requires-clause-sound : goal.emit-requires-clause-sound
emit-requires-clause-sound c = rw c.load_insn-load.ensures (load-sound (fields.Byte 23) _)

pub returns : goal.returns
returns c =
    let passed = rw c.load_insn-load.ensures at c.exits_after-exits.ensures in
    let are : AreExits c.args.self.now c.exits_after-exits.result = (passed.yes.here, passed.no.here) in
    let one : ℕ → Bool = λ b. if b == 6 then true else b == 17 in
    let all = chooses-either (λ r. one r.accumulator) (λ r. r.accumulator == 132) are c.len-sctp.ensures.value c.emit_branch.ensures c.emit_tcp_or_udp_branch.ensures in
    rw (c.len.ensures.value, c.emit.ensures, c.load_insn-load.ensures)
    (decides-same _ has_port_number (λ p bytes. two_numbers (byte 23 p) one (λ b. b == 132) ∙ ap (λ v. or_else v (check (λ b. b == 132) (byte 23 p))) (two_numbers (byte 23 p) (λ b. b == 6) (λ b. b == 17)))
    (decides-tested (load_insn (fields.Byte 23)) (byte 23) (λ b. if one b then true else b == 132) (load-effect (fields.Byte 23)) passed.yes passed.no all))
