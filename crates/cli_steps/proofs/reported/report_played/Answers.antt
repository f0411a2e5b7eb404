use Rattle.fault_report.proofs.Telling.{among-more, more-more, one-among, one-more}
use Rattle.fault_report.specs.Reports.{IsDevice}
use Rattle.fault_report.specs.declared.report.Subject.TheVariants.{StandardOutput}
use Rattle.cli_steps.specs.Reports.{IsReplayReport}
use Rattle.cli_steps.proofs.Reporting.{ended-after, refused-after}
use Rattle.cli_steps.proofs.reported.report_played.Goals as goal

pub returns-in-Ok-clause-ended : goal.returns-in-Ok-clause-ended
returns-in-Ok-clause-ended g c = λ fault is.
    let S = g.E.FaultSink in
    ended-after S.takes_hints S.failed g.E.Write.contents S.fault_form c.args.paths.now c.in-Ok.replayed c.args.err.now c.report_unprinted.new.err c.report_record_fault.new.err
    c.report_unprinted.ensures.more c.report_record_fault.ensures.told fault (rw c.in-Ok.is at is)

pub returns-in-Ok-clause-unprinted : goal.returns-in-Ok-clause-unprinted
returns-in-Ok-clause-unprinted g c = λ fails.
    let S = g.E.FaultSink in
    let says = IsDevice StandardOutput in
    among-more S.takes_hints S.failed g.E.Write.contents S.fault_form says c.args.err.now c.report_unprinted.new.err c.report_record_fault.new.err
    (one-among S.takes_hints S.failed g.E.Write.contents S.fault_form says c.args.err.now c.report_unprinted.new.err (c.report_unprinted.ensures.told fails)) c.report_record_fault.ensures.more

pub returns-in-Ok-clause-more : goal.returns-in-Ok-clause-more
returns-in-Ok-clause-more g c =
    let S = g.E.FaultSink in
    more-more S.takes_hints S.failed g.E.Write.contents S.fault_form c.args.err.now c.report_unprinted.new.err c.report_record_fault.new.err
    c.report_unprinted.ensures.more c.report_record_fault.ensures.more

pub returns-in-Err-clause-ended : goal.returns-in-Err-clause-ended
returns-in-Err-clause-ended g c = λ fault is.
    let S = g.E.FaultSink in
    refused-after S.takes_hints S.failed g.E.Write.contents S.fault_form c.args.paths.now c.in-Err.fault c.args.err.now c.report_unprinted.new.err c.report_end.new.err
    c.report_unprinted.ensures.more (one-among S.takes_hints S.failed g.E.Write.contents S.fault_form (IsReplayReport c.args.paths.now c.in-Err.fault) c.report_unprinted.new.err c.report_end.new.err c.report_end.ensures) fault (rw c.in-Err.is at is)

pub returns-in-Err-clause-unprinted : goal.returns-in-Err-clause-unprinted
returns-in-Err-clause-unprinted g c = λ fails.
    let S = g.E.FaultSink in
    let says = IsDevice StandardOutput in
    among-more S.takes_hints S.failed g.E.Write.contents S.fault_form says c.args.err.now c.report_unprinted.new.err c.report_end.new.err
    (one-among S.takes_hints S.failed g.E.Write.contents S.fault_form says c.args.err.now c.report_unprinted.new.err (c.report_unprinted.ensures.told fails))
    (one-more S.takes_hints S.failed g.E.Write.contents S.fault_form (IsReplayReport c.args.paths.now c.in-Err.fault) c.report_unprinted.new.err c.report_end.new.err c.report_end.ensures)

pub returns-in-Err-clause-more : goal.returns-in-Err-clause-more
returns-in-Err-clause-more g c =
    let S = g.E.FaultSink in
    more-more S.takes_hints S.failed g.E.Write.contents S.fault_form c.args.err.now c.report_unprinted.new.err c.report_end.new.err
    c.report_unprinted.ensures.more
    (one-more S.takes_hints S.failed g.E.Write.contents S.fault_form (IsReplayReport c.args.paths.now c.in-Err.fault) c.report_unprinted.new.err c.report_end.new.err c.report_end.ensures)
