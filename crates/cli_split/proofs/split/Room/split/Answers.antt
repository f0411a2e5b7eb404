use Rattle.std.proofs.Common.{◌≡◌, ◌<◌, ◌∷◌, ◌++◌, ◌∙◌, [], ap, arith, length, subst, sym, vec_len}
use Rattle.std.proofs.lemmas.Bool.{eqb-false, eqb-true}
use Rattle.std.proofs.lemmas.List.{append-nil}
use Rattle.cli_split.specs.Reading.{HasOpened}
use Rattle.cli_split.specs.Splitting.{Splits}
use Rattle.cli_split.proofs.Readings.{reads-unopened}
use Rattle.cli_split.proofs.Splits.{first-removed, no-capture, none-there, unread-first}
use Rattle.cli_split.proofs.split.Room.split.Goals as goal

pub returns-then-is_empty : goal.returns-then-is_empty
returns-then-is_empty g c =
    let none = none-there c.args.captures.items (let zero = eqb-true (vec_len c.args.captures) 0 (sym c.is_empty.ensures ∙ c.if-is_empty.true) in omega (arith, zero, c.args.captures.ok)) in
    no-capture g.R.Source.left g.R.Source.failures g.W.Sink.taken g.W.Sink.name g.W.Sink.failures c.args.captures.items c.args.parts.items c.args.order c.args.unit c.leave.result
    none (c.leave.ensures.sources ∙ ap (λ xs. c.args.self.sources.items ++ xs) none ∙ append-nil c.args.self.sources.items ∙ c.requires.room.no_source) c.leave.ensures.end c.leave.ensures.parts

pub returns-in-Ok : goal.returns-in-Ok
returns-in-Ok g c =
    let some : 0 < length c.args.captures.items = omega (arith, eqb-false (vec_len c.args.captures) 0 (sym c.is_empty.ensures ∙ c.if-is_empty.false), c.args.captures.ok) in
    let all = first-removed c.args.captures.items c.remove.new.self.items c.remove.result some c.remove.ensures.value c.remove.ensures.items in
    let told = c.in-Ok.ensures in
    let o : HasOpened g.R.Source.left g.R.Source.failures c.remove.result c.in-Ok.reader =
    record { header = c.in-Ok.reader.header; given = told.ok; bytes = told.taken.0; took = told.taken.1; works = told.device } in
    subst (λ cs. Splits g.R.Source.left g.R.Source.failures g.W.Sink.taken g.W.Sink.name g.W.Sink.failures cs c.args.parts.items c.args.order c.args.unit c.split_opened.result) (sym all)
    (c.split_opened.ensures c.remove.result c.args.order c.args.unit c.args.parts.items o c.begin_all.ensures)

pub returns-in-Err : goal.returns-in-Err
returns-in-Err g c =
    let some : 0 < length c.args.captures.items = omega (arith, eqb-false (vec_len c.args.captures) 0 (sym c.is_empty.ensures ∙ c.if-is_empty.false), c.args.captures.ok) in
    let all = first-removed c.args.captures.items c.remove.new.self.items c.remove.result some c.remove.ensures.value c.remove.ensures.items in
    let told = c.in-Err.ensures in
    let left = c.leave-in-Err.ensures in
    let back : c.leave-in-Err.result.sources.items ≡ c.in-Err.source ∷ c.remove.new.self.items =
    left.sources ∙ ap (λ xs. xs ++ c.remove.new.self.items) (c.push_reserved.ensures.items ∙ ap (λ xs. xs ++ c.in-Err.source ∷ []) c.requires.room.no_source) in
    unread-first g.R.Source.left g.R.Source.failures g.W.Sink.taken g.W.Sink.name g.W.Sink.failures c.args.captures.items c.args.parts.items c.args.order c.args.unit c.leave-in-Err.result
    c.remove.result c.in-Err.source c.remove.new.self.items c.in-Err.fault all back left.end
    (reads-unopened g.R.Source.left g.R.Source.failures c.remove.result c.in-Err.source 0 0 c.in-Err.fault told.refused told.taken told.device told.unread) left.parts
