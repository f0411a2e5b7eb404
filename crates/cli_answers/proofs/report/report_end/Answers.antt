use Rattle.fault_report.proofs.Telling.{among-more, among-quiet, more-among, one-among}
use Rattle.cli_answers.specs.Telling.{IsStopReport, IsUnprintedReport}
use Rattle.cli_answers.proofs.report.report_end.Goals as goal

pub returns-clause-told : goal.returns-clause-told
returns-clause-told g c =
    let first = c.report_printed-printed in
    let second = c.report_stop in
    let last = c.hint_ended.new.err in (
      (λ why is told. among-quiet g.E.FaultSink.takes_hints g.E.FaultSink.failed g.E.Write.contents g.E.FaultSink.fault_form (IsUnprintedReport why) c.args.err.now second.new.err last
          (among-more g.E.FaultSink.takes_hints g.E.FaultSink.failed g.E.Write.contents g.E.FaultSink.fault_form (IsUnprintedReport why) c.args.err.now first.new.err second.new.err
          (one-among g.E.FaultSink.takes_hints g.E.FaultSink.failed g.E.Write.contents g.E.FaultSink.fault_form (IsUnprintedReport why) c.args.err.now first.new.err (first.ensures.told why is told)) second.ensures.more) c.hint_ended.ensures.quiet),
      (λ stop is. among-quiet g.E.FaultSink.takes_hints g.E.FaultSink.failed g.E.Write.contents g.E.FaultSink.fault_form (IsStopReport c.args.paths.now stop) c.args.err.now second.new.err last
          (more-among g.E.FaultSink.takes_hints g.E.FaultSink.failed g.E.Write.contents g.E.FaultSink.fault_form (IsStopReport c.args.paths.now stop) c.args.err.now first.new.err second.new.err first.ensures.more
          (one-among g.E.FaultSink.takes_hints g.E.FaultSink.failed g.E.Write.contents g.E.FaultSink.fault_form (IsStopReport c.args.paths.now stop) first.new.err second.new.err (second.ensures.told stop is))) c.hint_ended.ensures.quiet),
    )
