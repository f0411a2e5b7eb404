use Rattle.std.proofs.Common.{◌∙◌, refl}
use Rattle.cli_compare.proofs.Asking.{apart-of}
use Rattle.cli_compare.proofs.asked.check_paths.Goals as goal

pub returns-in-Ok-check_apart-clause-apart : goal.returns-in-Ok-check_apart-clause-apart
returns-in-Ok-check_apart-clause-apart g c tells =
    let told = c.in-Ok-check_apart.ensures in
    let F = g.F.FileStore in
    let files = c.args.files.now in
    apart-of (F.place files) (F.text files) (F.printed files) c.args.words.now c.as_slice.result.now c.written_paths-written.result.now
    (c.as_slice.ensures.value ∙ c.in-Ok.ensures) c.written_paths-written.ensures (told.apart tells) (told.unprinted tells refl) (told.unshared tells refl)
