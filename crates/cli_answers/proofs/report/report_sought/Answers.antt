use Rattle.fault_report.specs.Reports.{TellsOne}
use Rattle.fault_report.proofs.Telling.{one-quiet}
use Rattle.cli_answers.proofs.Telling.{stop-later}
use Rattle.cli_answers.proofs.report.report_sought.Goals as goal

pub returns-clause-told : goal.returns-clause-told
returns-clause-told g c =
    let end = c.args.end.now in
    let first = c.report_found-status in
    let last = c.hint_ended.new.err in
    stop-later (λ says. TellsOne g.E.FaultSink.takes_hints g.E.FaultSink.failed g.E.Write.contents g.E.FaultSink.fault_form says c.args.err.now first.new.err) (λ says. TellsOne g.E.FaultSink.takes_hints g.E.FaultSink.failed g.E.Write.contents g.E.FaultSink.fault_form says c.args.err.now last) c.args.paths.now end.found
    (λ says told. one-quiet g.E.FaultSink.takes_hints g.E.FaultSink.failed g.E.Write.contents g.E.FaultSink.fault_form says c.args.err.now first.new.err last told c.hint_ended.ensures.quiet) first.ensures.told
