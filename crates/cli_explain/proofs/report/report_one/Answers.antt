use Rattle.std.proofs.Common.{slice_get}
use Rattle.fault_report.proofs.Telling.{among-more, more-among, more-more, one-among}
use Rattle.cli_answers.specs.Telling.{IsFaultReport, IsUnprintedReport}
use Rattle.cli_explain.specs.Telling.{IsNoPacketReport}
use Rattle.cli_explain.proofs.report.report_one.Goals as goal

pub returns-clause-told : goal.returns-clause-told
returns-clause-told g c =
    let paths = c.args.paths.now in
    let n = c.args.number in
    let first = c.report_printed-status in
    let second = c.report_read in (
      (λ why is told. among-more g.E.FaultSink.takes_hints g.E.FaultSink.failed g.E.Write.contents g.E.FaultSink.fault_form (IsUnprintedReport why) c.args.err.now first.new.err second.new.err
          (one-among g.E.FaultSink.takes_hints g.E.FaultSink.failed g.E.Write.contents g.E.FaultSink.fault_form (IsUnprintedReport why) c.args.err.now first.new.err (first.ensures.told why is told)) second.ensures.more),
      (
        (λ is. more-among g.E.FaultSink.takes_hints g.E.FaultSink.failed g.E.Write.contents g.E.FaultSink.fault_form (IsNoPacketReport paths n c.args.place) c.args.err.now first.new.err second.new.err first.ensures.more (second.ensures.told.0 is)),
        (λ fault is. more-among g.E.FaultSink.takes_hints g.E.FaultSink.failed g.E.Write.contents g.E.FaultSink.fault_form (IsFaultReport paths n fault (slice_get paths n)) c.args.err.now first.new.err second.new.err first.ensures.more (second.ensures.told.1 fault is)),
      ),
    )

pub returns-clause-more : goal.returns-clause-more
returns-clause-more g c =
    let first = c.report_printed-status in
    let second = c.report_read in
    more-more g.E.FaultSink.takes_hints g.E.FaultSink.failed g.E.Write.contents g.E.FaultSink.fault_form c.args.err.now first.new.err second.new.err first.ensures.more second.ensures.more
