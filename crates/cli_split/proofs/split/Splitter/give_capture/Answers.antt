use Rattle.std.proofs.Common.{[], refl, rules, sym, subst}
use Rattle.std.proofs.lemmas.List.{append-nil}
use Rattle.cli_split.specs.Standing.{HasSplit}
use Rattle.cli_split.proofs.Readings.{err-not, err-of, ok-not, ok-of, reads-unopened}
use Rattle.cli_split.proofs.split.Splitter.give_capture.Goals as goal

pub returns-then-is_err-clause-reads : goal.returns-then-is_err-clause-reads
returns-then-is_err-clause-reads g c = ok-not c.args.end _ (search rules)

pub returns-then-is_err-clause-unread : goal.returns-then-is_err-clause-unread
returns-then-is_err-clause-unread g c = err-of c.args.end _ (refl, refl, refl)

pub give_opened-requires-clause-opened : goal.give_opened-requires-clause-opened
give_opened-requires-clause-opened g c =
    let told = c.in-Ok.ensures in
    (c.args.source, record { header = c.in-Ok.reader.header; given = told.ok; bytes = told.taken.0; took = told.taken.1; works = told.device })

pub returns-in-Ok-clause-reads : goal.returns-in-Ok-clause-reads
returns-in-Ok-clause-reads g c =
    let told = c.in-Ok.ensures in
    ok-of c.args.end _
    (c.give_opened.ensures.reads c.args.source (record { header = c.in-Ok.reader.header; given = told.ok; bytes = told.taken.0; took = told.taken.1; works = told.device }))

pub returns-in-Ok-clause-unread : goal.returns-in-Ok-clause-unread
returns-in-Ok-clause-unread g c = err-not c.args.end _ (search rules)

pub returns-in-Err-clause-reads : goal.returns-in-Err-clause-reads
returns-in-Err-clause-reads g c =
    let told = c.in-Err.ensures in
    ok-of c.args.end _ (
      [],
      reads-unopened g.R.Source.left g.R.Source.failures c.args.source c.in-Err.source _ c.args.n c.in-Err.fault told.refused told.taken told.device told.unread,
      λ order unit before parts has. subst (λ ps. HasSplit g.W.Sink.taken g.W.Sink.name g.W.Sink.failures order unit ps parts c.args.self.now) (sym (append-nil before)) has,
    )

pub returns-in-Err-clause-unread : goal.returns-in-Err-clause-unread
returns-in-Err-clause-unread g c = err-not c.args.end _ (search rules)
