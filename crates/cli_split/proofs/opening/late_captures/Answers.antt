use Rattle.std.proofs.Common.{◌∙◌}
use Rattle.cli_split.proofs.Openings.{late-next, opened-next}
use Rattle.cli_split.proofs.opening.late_captures.Goals as goal

pub loop-path-preserved : goal.loop-path-preserved
loop-path-preserved g c =
    let place = g.F.FileStore.place in
    let text = g.F.FileStore.text in
    let opened = g.F.FileStore.opened in
    let L = g.F.Input.Source.left in
    let B = g.F.Input.Source.failures in
    let old = c.args.files.now in
    let here = c.loop-path.files in
    let was = c.loop-path.invariant in
    let late = c.in-Ok.ensures in (
      (late.kept.0 ∙ was.0.0, late.kept.1 ∙ was.0.1, late.kept.2 ∙ was.0.2),
      (λ tells. opened-next (place old) (place here) (opened old) (opened here) (opened c.late.new.self) c.args.paths.now c.loop-path.path-index _ was.0.0 c.loop-path-test.true (was.1 tells) (late.opened tells)),
      (λ tells. rw c.in_ok-push-in-Ok.ensures.items
          (late-next L B (place old) (place here) (text old) (text here) c.args.paths.now c.loop-path.path-index _ c.loop-path.captures.items c.in-Ok.capture was.0.0 was.0.1 c.loop-path-test.true (was.2 tells)
          (late.bytes tells) (late.works tells))),
    )
