use Rattle.std.proofs.Common.{◌∙◌, refl}
use Rattle.cli_split.proofs.OwnFiles.{apart-lines, own-lines, unprinted-lines}
use Rattle.cli_split.proofs.paths.check_paths.Goals as goal

pub returns-in-Ok-clause-apart : goal.returns-in-Ok-clause-apart
returns-in-Ok-clause-apart g c tells =
    apart-lines (g.F.FileStore.place c.args.files.now) c.as_slice.result.now _ c.as_slice-2.result.now c.args.lines.now (c.as_slice.ensures.value ∙ c.in_ok-read.ensures)
    (c.as_slice-2.ensures.value ∙ c.in_ok-outputs.ensures) (c.in-Ok.ensures.apart tells)

pub returns-in-Ok-clause-own : goal.returns-in-Ok-clause-own
returns-in-Ok-clause-own g c tells =
    own-lines (g.F.FileStore.place c.args.files.now) c.as_slice-2.result.now c.args.lines.now (c.as_slice-2.ensures.value ∙ c.in_ok-outputs.ensures) (c.in-Ok.ensures.own tells)

pub returns-in-Ok-clause-unprinted : goal.returns-in-Ok-clause-unprinted
returns-in-Ok-clause-unprinted g c tells =
    unprinted-lines (g.F.FileStore.place c.args.files.now) (g.F.FileStore.printed c.args.files.now) c.as_slice.result.now _ c.as_slice-2.result.now c.args.lines.now
    (c.as_slice.ensures.value ∙ c.in_ok-read.ensures) (c.as_slice-2.ensures.value ∙ c.in_ok-outputs.ensures) (c.in-Ok.ensures.unprinted tells refl) (c.in-Ok.ensures.unshared tells refl)
