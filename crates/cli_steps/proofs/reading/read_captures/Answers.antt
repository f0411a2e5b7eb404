use Rattle.std.proofs.Common.{rules, ◌≡◌, [], ◌∷◌, ◌++◌, ◌∙◌}
use Rattle.std.proofs.lemmas.Result.{err_from_is_err_and}
use Rattle.cli_steps.proofs.Captures.{read_more}
use Rattle.cli_steps.proofs.Reasons.{before, capture_unread}
use Rattle.cli_steps.proofs.reading.read_captures.Goals as goal

pub returns-in_err-text-clause-refused : goal.returns-in_err-text-clause-refused
returns-in_err-text-clause-refused g c tells =
    let p = err_from_is_err_and c.from_residual.result c.from_residual.ensures.1 in
    let F = g.F.FileStore in
    let new = c.read_capture.new.files in
    rw (p.1, p.2) (capture_unread (F.place c.args.files.now) (F.place c.loop-path.files) (F.failed new) (F.denied new) c.args.paths.now c.loop-path.path-index _ c.in_err-text.field-0.0
    c.loop-path.invariant.kept.0 c.loop-path-test.true (c.in_err-text.ensures.refused tells))

pub loop-path-preserved : goal.loop-path-preserved
loop-path-preserved g c =
    let F = g.F.FileStore in
    let old = c.args.files.now in
    let mid = c.loop-path.files in
    let invariant = c.loop-path.invariant in
    let now = c.in_ok-text.ensures in
    let pushed : c.push.new.self.items ≡ c.loop-path.texts.items ++ c.in_ok-text.text ∷ [] = search rules in
    record {
      kept = (now.kept.0 ∙ invariant.kept.0, now.kept.1 ∙ invariant.kept.1, now.kept.2 ∙ invariant.kept.2);
      opened = now.opened ∙ invariant.opened;
      texts = λ tells.
          let (whole, is, read) = now.text tells in
          rw pushed (read_more (F.place old) (F.text old) c.args.paths.now c.loop-path.path-index _ c.loop-path.texts.items whole c.in_ok-text.text c.loop-path-test.true (invariant.texts tells)
          (before (F.place old) (F.place mid) (F.text old) (F.text mid) _ whole invariant.kept.0 invariant.kept.1 is) read);
    }
