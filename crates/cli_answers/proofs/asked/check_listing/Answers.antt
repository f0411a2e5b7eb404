use Rattle.std.proofs.Common.{arith, refl}
use Rattle.cli_files.specs.declared.paths.Opening.TheVariants.{First}
use Rattle.cli_store.specs.Files.{IsUnprinted}
use Rattle.cli_answers.proofs.Opening.{if-given}
use Rattle.cli_answers.proofs.asked.check_listing.Goals as goal

pub returns-in-Ok-clause-apart : goal.returns-in-Ok-clause-apart
returns-in-Ok-clause-apart g c tells =
    let F = g.F.FileStore in
    let old = c.args.files.now in
    if-given (IsUnprinted First (F.place old) (F.text old) (F.printed old)) c.args.listing c.in-Some.path c.in-Some.is (c.in-Ok.ensures.unprinted tells refl 0 c.in-Some.path (omega arith))
