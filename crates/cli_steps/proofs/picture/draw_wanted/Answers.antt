use Rattle.std.proofs.Common.{◌≡◌, Ok}
use Rattle.cli_steps.proofs.Drawing.{is_drawn}
use Rattle.cli_steps.proofs.picture.draw_wanted.Goals as goal

pub returns-clause-drawn : goal.returns-clause-drawn
returns-clause-drawn g c tells traced =
    let F = g.F.FileStore in
    let found = c.in-Some-Ok-Some in
    let was : c.args.replayed.now ≡ Ok found.field-0-1 = search in
    is_drawn (F.place c.args.files.now) (F.text c.args.files.now) (F.text c.draw.new.files) c.args.words.now.picture c.args.replayed.now found.path found.field-0-1 c.in_ok-picture.picture
    found.is-0 was (rw c.as_slice.ensures.value at (c.in_ok-draw.ensures.stored tells))
