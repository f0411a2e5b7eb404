use Rattle.std.proofs.Common.{Ok, ◌≡◌, ◌∙◌, ◌↔◌, ◌≢◌, ◌++◌, inl, ap, subst}
use Rattle.std.proofs.KnownBytes.{Consumes-trans}
use Rattle.cli_answers.proofs.Reading.{still-works}
use Rattle.cli_explain.proofs.Ranging.{goes-found, shows-none, shows-stopped}
use Rattle.cli_explain.proofs.range.show_range.Goals as goal

pub returns-in-Ok-true-clause-shows : goal.returns-in-Ok-true-clause-shows
returns-in-Ok-true-clause-shows g c = λ from header given.
    let (before, here, gives) = goes-found g.R.Source.left from header c.args.places.first c.go_to.new.reader c.go_to.result
    (c.in-Ok-true.is ∙ ap Ok c.in-Ok-true.field-0-test) (c.go_to.ensures.goes from header given) in
    inl (before, here, c.print_range.ensures.prints from header before here gives)

pub returns-in-Ok-true-clause-taken : goal.returns-in-Ok-true-clause-taken
returns-in-Ok-true-clause-taken g c =
    let (first, went) = c.go_to.ensures.taken in
    let (further, goes) = c.print_range.ensures.taken in
    (first ++ further, Consumes-trans _ _ _ first further went goes)

pub returns-in-Ok-false-clause-shows : goal.returns-in-Ok-false-clause-shows
returns-in-Ok-false-clause-shows g c = λ from header given.
    shows-none g.R.Source.left from header c.args.printer.now.form c.args.printer.now.filter.now c.args.places.first c.args.places.last c.go_to.new.reader c.go_to.result _ _ _ _
    (c.in-Ok-false.is ∙ ap Ok c.in-Ok-false.field-0-test) c.outcome.ensures.read c.outcome.ensures.printed (c.go_to.ensures.goes from header given)

pub returns-in-Err-clause-shows : goal.returns-in-Err-clause-shows
returns-in-Err-clause-shows g c = λ from header given.
    shows-stopped g.R.Source.left from header c.args.printer.now.form c.args.printer.now.filter.now c.args.places.first c.args.places.last c.go_to.new.reader c.go_to.result _ _ c.in-Err.fault _ _
    c.in-Err.is c.outcome-in-Err.ensures.read c.outcome-in-Err.ensures.printed (c.go_to.ensures.goes from header given)
