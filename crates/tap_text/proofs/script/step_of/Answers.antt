use Rattle.std.proofs.lemmas.Slice.Eq.{slice_eq-Decides}
use Rattle.std.proofs.lemmas.Bool.Decides.{Decides-eqb}
use Rattle.line_text.proofs.Cuts.{if_none}
use Rattle.tap_text.proofs.Words.{NoStep, differs, NoStep-one_word, NoStep-number, named-some, named-none}
use Rattle.tap_text.proofs.script.step_of.Goals as goal

pub returns-in_err-word-clause-none : goal.returns-in_err-word-clause-none
returns-in_err-word-clause-none c =
    let other = differs c.args.line.now _ _ c.eq.result (slice_eq-Decides Decides-eqb _ _ _ c.eq.ensures) c.if-eq.false c.as_slice.ensures in
    if_none _ (NoStep c.args.line.now) (NoStep-one_word c.args.line.now other c.in_err-word.ensures.none)

pub returns-in_err-l-clause-none : goal.returns-in_err-l-clause-none
returns-in_err-l-clause-none c =
    let other = differs c.args.line.now _ _ c.eq.result (slice_eq-Decides Decides-eqb _ _ _ c.eq.ensures) c.if-eq.false c.as_slice.ensures in
    if_none _ (NoStep c.args.line.now) (NoStep-number c.args.line.now c.in_ok-word.word.now c.in_ok-word.l.now c.in_ok-word.ensures.parts c.in_ok-word.ensures.first other (rw c.from.ensures at c.in_err-l.ensures.none))

pub returns-clause-some : goal.returns-clause-some
returns-clause-some c =
    let other = differs c.args.line.now _ _ c.eq.result (slice_eq-Decides Decides-eqb _ _ _ c.eq.ensures) c.if-eq.false c.as_slice.ensures in
    named-some c.args.line.now c.in_ok-word.word.now c.in_ok-word.l.now c.in_ok-word.ensures.parts c.in_ok-word.ensures.first other c.in_ok-l.field-0 c.step_named.result
    (rw c.from.ensures at c.in_ok-l.ensures.some) c.step_named.ensures.some

pub returns-clause-none : goal.returns-clause-none
returns-clause-none c =
    let other = differs c.args.line.now _ _ c.eq.result (slice_eq-Decides Decides-eqb _ _ _ c.eq.ensures) c.if-eq.false c.as_slice.ensures in
    named-none c.args.line.now c.in_ok-word.word.now c.in_ok-word.l.now c.in_ok-word.ensures.parts c.in_ok-word.ensures.first other c.step_named.result c.step_named.ensures.none
