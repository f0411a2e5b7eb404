use Rattle.std.proofs.lemmas.Slice.Eq.{slice_eq-Decides}
use Rattle.std.proofs.lemmas.Bool.Decides.{Decides-eqb}
use Rattle.tap_text.proofs.Words.{differs}
use Rattle.tap_text.proofs.script.step_named.Goals as goal

pub returns-else-eq-3-clause-none : goal.returns-else-eq-3-clause-none
returns-else-eq-3-clause-none c =
    let word = c.args.word.now in (
      differs word _ _ c.eq.result (slice_eq-Decides Decides-eqb _ _ _ c.eq.ensures) c.if-eq.false c.as_slice.ensures,
      differs word _ _ c.eq-else-eq.result (slice_eq-Decides Decides-eqb _ _ _ c.eq-else-eq.ensures) c.if-eq-2.false c.as_slice-else-eq.ensures,
      differs word _ _ c.eq-else-eq-2.result (slice_eq-Decides Decides-eqb _ _ _ c.eq-else-eq-2.ensures) c.if-eq-3.false c.as_slice-else-eq-2.ensures,
    )
