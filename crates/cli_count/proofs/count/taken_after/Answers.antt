use Rattle.std.proofs.Common.{◌≡◌, ℕ, List, [], ◌∷◌, ◌++◌, Option, Some, option_copied, ap, sym, subst}
use Rattle.bpfvm.specs.declared.insn.Insn.{Insn}
use Rattle.bpfvm.specs.Traces.{TakesInstructions}
use Rattle.savefile.specs.declared.packet.Packet.{Packet}
use Rattle.cli_count.specs.Counting.{IsTaken}
use Rattle.cli_count.proofs.Costs.{takes-more}
use Rattle.cli_count.proofs.count.taken_after.Goals as goal

pub returns-in-Some-Some : goal.returns-in-Some-Some
returns-in-Some-Some c = λ packets given.
    let program = c.in-Some-Some.program.now in
    let p = c.args.packet.now in
    let taken = c.count_instructions-instructions in
    let named : option_copied c.args.program ≡ Some program = ap option_copied c.in-Some-Some.is-0 in
    let one : TakesInstructions program p.bytes p.len taken.result = rw (sym c.packet.view_is) taken.ensures in
    let so_far = subst (λ (o : Option ℕ). IsTaken (Some program) packets o) c.in-Some-Some.is-1 (subst (λ (m : Option (List Insn)). IsTaken m packets c.args.before) named given) in
    subst (λ (m : Option (List Insn)). IsTaken m (packets ++ p ∷ []) (Some c.saturating_add.result)) (sym named)
    (takes-more program packets p c.in-Some-Some.before taken.result c.saturating_add.result so_far one c.saturating_add.ensures)
