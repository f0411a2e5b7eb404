use Rattle.std.proofs.Common.{List, ◌∙◌, subst}
use Rattle.std.proofs.lemmas.List.{take_all}
use Rattle.replay_types.specs.declared.report.ListenerReport.{ListenerReport}
use Rattle.std.proofs.lemmas.Result.{err_from_is_err_and}
use Rattle.std.specs.Io.KnownBytes.{Appends}
use Rattle.line_text.specs.Texts.{numbered}
use Rattle.line_text.specs.Sending.{TakesPart}
use Rattle.line_text.proofs.Taking.{TakesPart-none, TakesPart-numbered, Appends-numbered}
use Rattle.cli_run.specs.Printed.{listener_line}
use Rattle.cli_run.proofs.report.write_listeners.Goals as goal

pub returns-in_err-put_listener : goal.returns-in_err-put_listener
returns-in_err-put_listener g c =
    let p = err_from_is_err_and c.from_residual.result c.from_residual.ensures.1 in
    rw p.1 (TakesPart-numbered (listener_line c.args.form c.args.i) c.args.reports.now c.loop-l.l c.index-reports-l.result _ _ _ c.loop-l-test.true c.index-reports-l.is c.loop-l.invariant (TakesPart-none _ _))

pub returns-in_err-send : goal.returns-in_err-send
returns-in_err-send g c =
    let p = err_from_is_err_and c.from_residual-in_err-send.result c.from_residual-in_err-send.ensures.1 in
    let text = c.as_bytes.ensures ∙ c.in_ok-put_listener.ensures in
    rw p.1 (TakesPart-numbered (listener_line c.args.form c.args.i) c.args.reports.now c.loop-l.l c.index-reports-l.result _ _ _ c.loop-l-test.true c.index-reports-l.is c.loop-l.invariant (subst (TakesPart _ _) text c.in_err-send.ensures))

pub loop-l-preserved : goal.loop-l-preserved
loop-l-preserved g c =
    let text = c.as_bytes.ensures ∙ c.in_ok-put_listener.ensures in
    Appends-numbered (listener_line c.args.form c.args.i) c.args.reports.now c.loop-l.l c.index-reports-l.result _ _ _ c.loop-l-test.true c.index-reports-l.is c.loop-l.invariant (subst (Appends _ _) text c.in_ok-send.ensures)

pub returns : goal.returns
returns g c =
    subst (λ (reports : List (ListenerReport g.row.W.Denot)). Appends (g.O.Write.contents c.args.out.now) (g.O.Write.contents c.loop-l.out) (numbered (listener_line c.args.form c.args.i) 0 reports))
    (take_all c.loop-l.l c.args.reports.now c.loop-l-test.false) c.loop-l.invariant
