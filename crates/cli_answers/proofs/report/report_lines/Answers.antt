use Rattle.fault_report.specs.Reports.{TellsAmong}
use Rattle.fault_report.proofs.Telling.{among-more}
use Rattle.cli_answers.proofs.Telling.{end-later}
use Rattle.cli_answers.proofs.report.report_lines.Goals as goal

pub returns-in-Some-Ok-clause-told : goal.returns-in-Some-Ok-clause-told
returns-in-Some-Ok-clause-told g c =
    let end = c.args.end.now in
    let first = c.report_end-status in
    let last = c.report_unseen in
    end-later (λ says. TellsAmong g.E.FaultSink.takes_hints g.E.FaultSink.failed g.E.Write.contents g.E.FaultSink.fault_form says c.args.err.now first.new.err) (λ says. TellsAmong g.E.FaultSink.takes_hints g.E.FaultSink.failed g.E.Write.contents g.E.FaultSink.fault_form says c.args.err.now last.new.err) c.args.paths.now end.printed end.read
    (λ says told. among-more g.E.FaultSink.takes_hints g.E.FaultSink.failed g.E.Write.contents g.E.FaultSink.fault_form says c.args.err.now first.new.err last.new.err told last.ensures.more) first.ensures.told
