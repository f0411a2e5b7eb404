use Rattle.std.proofs.Common.{◌∙◌, arith, refl, subst, sym}
use Rattle.cli_split.specs.Texts.{NotesFailures}
use Rattle.cli_split.proofs.Closings.{notes-none}
use Rattle.cli_split.proofs.closing.close_captures.Goals as goal

pub loop-capture-init : goal.loop-capture-init
loop-capture-init g c = (
  tt,
  tt,
  (refl, refl, refl),
  (λ tells failed. failed),
  (λ tells later up noted. subst (NotesFailures g.F.Input.Source.failures later) c.into_iter-capture-iterator.ensures.into_iter_gives.0 noted),
)

pub loop-capture-preserved : goal.loop-capture-preserved
loop-capture-preserved g c =
    let was = c.loop-capture.invariant in
    let kept = c.done.ensures.kept in (
      tt,
      tt,
      (kept.0 ∙ was.2.0, kept.1 ∙ was.2.1, kept.2 ∙ was.2.2),
      (λ tells failed. c.done.ensures.stays tells (was.3 tells failed)),
      (λ tells later up noted. was.4 tells later (λ failed. up (c.done.ensures.stays tells failed))
          (subst (NotesFailures g.F.Input.Source.failures later) (sym c.in-Some.ensures.steps.0) ((λ broke. up (c.done.ensures.failed tells broke)), noted))),
    )

pub returns-clause-failed : goal.returns-clause-failed
returns-clause-failed g c tells =
    c.loop-capture.invariant.4 tells (g.F.FileStore.failed c.loop-capture.files) (λ failed. failed)
    (notes-none g.F.Input.Source.failures (g.F.FileStore.failed c.loop-capture.files) c.loop-capture.capture-iterator.rest.items (omega (arith, c.in-None.ensures.steps.0, c.loop-capture.capture-iterator.rest.ok)))
