use Rattle.std.proofs.Common.{◌≡◌, slice_get, subst}
use Rattle.fault_report.specs.Reports.{TellsOne}
use Rattle.fault_report.proofs.Telling.{one-among}
use Rattle.cli_answers.specs.Telling.{IsFaultReport}
use Rattle.cli_explain.proofs.report.report_read.Goals as goal

pub returns-in-Err-clause-told : goal.returns-in-Err-clause-told
returns-in-Err-clause-told g c =
    let S = g.E.FaultSink in
    let paths = c.args.paths.now in
    let n = c.args.number in
    let after = c.report_capture.new.err in (
      (λ is. absurd cc),
      (λ fault is.
          let here = c.in-Err.is in
          let same : c.in-Err.fault ≡ fault = cc in
          one-among S.takes_hints S.failed g.E.Write.contents S.fault_form (IsFaultReport paths n fault (slice_get paths n)) c.args.err.now after
          (subst (λ f. TellsOne S.takes_hints S.failed g.E.Write.contents S.fault_form (IsFaultReport paths n f (slice_get paths n)) c.args.err.now after) same c.report_capture.ensures.told)),
    )
