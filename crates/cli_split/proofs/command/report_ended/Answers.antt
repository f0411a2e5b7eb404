use Rattle.cli_split.proofs.Telling.{ended-quiet}
use Rattle.cli_split.proofs.command.report_ended.Goals as goal

pub returns-clause-told : goal.returns-clause-told
returns-clause-told g c =
    ended-quiet g.E.FaultSink.takes_hints g.E.FaultSink.failed g.E.Write.contents g.E.FaultSink.fault_form c.args.report.lines.items c.args.words.now.inputs.items c.args.report.end c.args.err.now _ _
    (rw c.as_slice.ensures.value at (rw c.as_slice-2.ensures.value at c.report-status.ensures.told)) c.hint_ended.ensures.quiet
