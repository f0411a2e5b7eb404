use Rattle.std.proofs.Common.{◌++◌, inl, refl}
use Rattle.std.proofs.KnownBytes.{Consumes-trans}
use Rattle.cli_answers.proofs.Reading.{unopened}
use Rattle.cli_answers.proofs.Seeking.{seeks-it}
use Rattle.cli_answers.proofs.seek.find_first.Goals as goal

pub returns-in-Err-clause-seeks : goal.returns-in-Err-clause-seeks
returns-in-Err-clause-seeks g c =
    inl (c.in-Err.fault, unopened g.R.Source.left c.args.from c.in-Err.source c.in-Err.fault c.in-Err.ensures.refused c.in-Err.ensures.unread c.in-Err.ensures.taken, refl)

pub returns-clause-seeks : goal.returns-clause-seeks
returns-clause-seeks g c =
    let left = g.R.Source.left in
    let header = c.in-Ok.reader.header in
    seeks-it left c.args.from _ header c.go_to_first-found.new.reader _ c.go_to_first-found.result
    (λ packets given. c.given_so_far.ensures (left c.args.from) header packets given)
    c.close.ensures refl (c.go_to_first-found.ensures.goes (left c.args.from) header c.in-Ok.ensures.ok)

pub returns-clause-gave : goal.returns-clause-gave
returns-clause-gave g c =
    let (first, opened) = c.in-Ok.ensures.taken in
    let (further, went) = c.go_to_first-found.ensures.taken in
    rw c.close.ensures (first ++ further, Consumes-trans _ _ _ first further opened went)
