use Rattle.cli_steps.proofs.Reporting.{played}
use Rattle.cli_steps.proofs.command.report_steps.Goals as goal

pub returns-clause-told : goal.returns-clause-told
returns-clause-told g c =
    let S = g.E.FaultSink in
    played S.takes_hints S.failed g.E.Write.contents S.fault_form c.args.words.now c.args.noted c.args.report.now c.unwrap_or.result
    c.args.err.now c.report_played.new.err c.hint_noted.new.err c.hint_replay.new.err c.report_picture-drawn.new.err c.hint_returns.new.err
    (rw c.as_slice-paths.ensures.value at c.report_played.ensures.ended) (λ fails. c.report_played.ensures.unprinted (c.is_output_fault-output_failed.ensures fails)) c.report_played.ensures.more c.hint_noted.ensures.quiet c.hint_replay.ensures.quiet
    c.report_picture-drawn.ensures.told c.report_picture-drawn.ensures.more c.hint_returns.ensures.quiet (λ path asked. rw asked at c.unwrap_or.ensures)
