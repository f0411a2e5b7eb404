use Rattle.fault_report.proofs.Telling.{among-more, one-among}
use Rattle.cli_explain.specs.Telling.{IsNoPacketReport}
use Rattle.cli_explain.proofs.report.report_no_packet.Goals as goal

pub returns-clause-told : goal.returns-clause-told
returns-clause-told g c =
    let says = IsNoPacketReport c.args.paths.now c.args.number c.args.place in
    let told = c.report_fault-status in
    among-more g.E.FaultSink.takes_hints g.E.FaultSink.failed g.E.Write.contents g.E.FaultSink.fault_form says c.args.err.now told.new.err c.name_source.new.err
    (one-among g.E.FaultSink.takes_hints g.E.FaultSink.failed g.E.Write.contents g.E.FaultSink.fault_form says c.args.err.now told.new.err (c.no_packet.result, c.no_packet.ensures, told.ensures.told)) c.name_source.ensures.more
