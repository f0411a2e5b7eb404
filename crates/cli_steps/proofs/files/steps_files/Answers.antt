use Rattle.cli_steps.proofs.Asked.{steps_files}
use Rattle.cli_steps.proofs.files.steps_files.Goals as goal

pub returns-clause-steps : goal.returns-clause-steps
returns-clause-steps g c tells =
    let F = g.F.FileStore in
    let old = c.args.files.now in
    let mid = c.read_input.new.files in
    let new = c.draw_wanted-drawn.new.files in
    let kept = c.in_ok-input.ensures.kept in
    steps_files (F.place old) (F.place mid) (F.text old) (F.text mid) (F.text new) (F.printed old) (F.failed new) (F.denied new) c.args.words.now _ _ _
    kept.0 kept.1 (c.in_ok-input.ensures.input tells) c.in-Ok.ensures.played (c.draw_wanted-drawn.ensures.others tells) (c.draw_wanted-drawn.ensures.unplayed tells) (c.draw_wanted-drawn.ensures.drawn tells) (c.draw_wanted-drawn.ensures.failed tells)
