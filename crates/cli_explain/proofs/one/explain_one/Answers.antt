use Rattle.std.proofs.Common.{inl, refl, ◌++◌}
use Rattle.std.proofs.KnownBytes.{Consumes-trans, Keeps-refl}
use Rattle.cli_answers.proofs.Reading.{unopened}
use Rattle.cli_explain.proofs.Printing.{finds-it}
use Rattle.cli_explain.proofs.one.explain_one.Goals as goal

pub returns-in-Err-clause-finds : goal.returns-in-Err-clause-finds
returns-in-Err-clause-finds g c =
    inl (c.in-Err.fault, unopened g.R.Source.left c.args.from c.in-Err.source c.in-Err.fault c.in-Err.ensures.refused c.in-Err.ensures.unread c.in-Err.ensures.taken, refl, refl, Keeps-refl _)

pub returns-clause-finds : goal.returns-clause-finds
returns-clause-finds g c =
    let left = g.R.Source.left in
    let header = c.in-Ok.reader.header in
    finds-it left c.args.from c.args.printer.now.form c.args.printer.now.filter.now c.args.place _ _ header c.go_to-read.new.reader _ c.go_to-read.result
    (λ packets given. c.given_so_far.ensures (left c.args.from) header packets given)
    c.close.ensures refl (c.go_to-read.ensures.goes (left c.args.from) header c.in-Ok.ensures.ok) c.print_found-printed.ensures

pub returns-clause-gave : goal.returns-clause-gave
returns-clause-gave g c =
    let (first, opened) = c.in-Ok.ensures.taken in
    let (further, went) = c.go_to-read.ensures.taken in
    rw c.close.ensures (first ++ further, Consumes-trans _ _ _ first further opened went)
