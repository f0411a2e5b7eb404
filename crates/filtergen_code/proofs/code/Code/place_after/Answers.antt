use Rattle.std.proofs.Common.{Some, ap, ◌∙◌}
use Rattle.filtergen_code.proofs.Runs.{same-insn, passes-one}
use Rattle.filtergen_code.proofs.code.Code.place_after.Goals as goal

pub returns-then-eq : goal.returns-then-eq
returns-then-eq c =
    passes-one c.args.insn c.args.place c.args.self.now c.if-place-gt1.true c.requires.1
    (c.insn_at.ensures.here ∙ ap Some (same-insn c.insn_at.result c.args.insn c.if-eq.ensures))
