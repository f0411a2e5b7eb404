use Rattle.std.proofs.Common.{◌≡◌, ◌∙◌, Some, ap, arith}
use Rattle.filtergen_code.specs.Insns.{plain_insn}
use Rattle.filtergen_code.proofs.Runs.{same-insn}
use Rattle.filtergen_code.proofs.Beyond.{same-returns}
use Rattle.filtergen_code.proofs.code.Code.nearest_return.Goals.{then-eq-2, else-eq-2}
use Rattle.filtergen_code.proofs.code.Code.nearest_return.Goals as goal

pub loop-at-preserved : goal.loop-at-preserved
loop-at-preserved c =
    let code = c.args.self.now in
    let wanted = c.insn_at-wanted.result in
    let is : wanted ≡ plain_insn 6 wanted.k = same-insn wanted (plain_insn 6 wanted.k) (rw c.plain_insn.ensures at c.if-eq.ensures) in
    elim c.if-eq-2.branch [
      | then-eq-2 w ↦ (
          let same : c.insn_at.result ≡ wanted = same-insn c.insn_at.result wanted w.if-eq-2.ensures in
          rw w.found-is
          (same-returns c.args.place c.loop-at.at code wanted wanted.k (omega (arith, c.loop-at.auto.at, c.requires.0), omega (arith, c.loop-at-test.true, c.len-at-end.ensures.value)) is c.insn_at-wanted.ensures.here
          (c.insn_at.ensures.here ∙ ap Some same)))
      | else-eq-2 w ↦ rw w.found-is c.loop-at.invariant
    ]
