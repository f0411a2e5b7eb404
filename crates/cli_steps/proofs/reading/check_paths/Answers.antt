use Rattle.std.proofs.Common.{◌∙◌, refl}
use Rattle.cli_steps.proofs.Reasons.{apart_paths}
use Rattle.cli_steps.proofs.reading.check_paths.Goals as goal

pub returns-in-Ok-check_apart-clause-apart : goal.returns-in-Ok-check_apart-clause-apart
returns-in-Ok-check_apart-clause-apart g c tells =
    let told = c.in-Ok-check_apart.ensures in
    let files = c.args.files.now in
    apart_paths (g.F.FileStore.place files) (g.F.FileStore.text files) (g.F.FileStore.printed files) c.args.words.now c.as_slice.result.now c.drawn_paths-drawn.result.now
    (c.as_slice.ensures.value ∙ c.in-Ok.ensures) c.drawn_paths-drawn.ensures (told.apart tells) (told.unprinted tells refl) (told.unshared tells refl)
