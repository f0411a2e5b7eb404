use Rattle.std.proofs.Common.{Some, ap, arith, ◌∙◌, ◌≡◌}
use Rattle.filtergen_code.specs.Insns.{plain_insn}
use Rattle.filtergen_code.proofs.Growing.{jump-sound, return-sound}
use Rattle.filtergen_code.proofs.Runs.{same-insn, jump-leads, return-leads}
use Rattle.filtergen_code.proofs.code.Code.jump_to.Goals as goal

pub returns-then-eq : goal.returns-then-eq
returns-then-eq c =
    let insn = c.insn_at-insn.result in
    let is : insn ≡ plain_insn 6 insn.k = same-insn insn (plain_insn 6 insn.k) (rw c.plain_insn.ensures at c.if-eq.ensures) in
    let code = c.args.self.now in
    rw is (record { sound = return-sound insn.k _; leads = λ p r. return-leads insn.k c.args.place code p r (c.insn_at-insn.ensures.here ∙ ap Some is) })

pub returns-else-eq : goal.returns-else-eq
returns-else-eq c =
    rw (c.plain_insn-else-eq.ensures, c.len.ensures.value) (record { sound = jump-sound c.args.self.now _ (omega (arith, c.requires.0, c.requires.1)); leads = jump-leads c.args.place c.args.self.now })
