use Rattle.std.proofs.Common.{rules}
use Rattle.cli_compare.proofs.Telling.{answer-among, out-after}
use Rattle.cli_compare.proofs.decide.report_and_write.Goals as goal

pub returns-in-Some-Some-clause-writes : goal.returns-in-Some-Some-clause-writes
returns-in-Some-Some-clause-writes g c tells =
    let S = g.E.FaultSink in
    let first = c.report_answer-status in
    let out = c.report_out in
    let told = out-after S.takes_hints S.failed g.E.Write.contents S.fault_form c.in-Some-Some.path c.write_out-written.result c.args.err.now first.new.err out.new.err first.ensures.more out.ensures.told in
    search rules

pub returns-in_default-clause-told : goal.returns-in_default-clause-told
returns-in_default-clause-told g c =
    let S = g.E.FaultSink in
    let first = c.report_answer-status in
    answer-among S.takes_hints S.failed g.E.Write.contents S.fault_form c.args.answer.now c.args.err.now first.new.err first.ensures.told

pub returns-in_default-2-clause-told : goal.returns-in_default-2-clause-told
returns-in_default-2-clause-told g c =
    let S = g.E.FaultSink in
    let first = c.report_answer-status in
    answer-among S.takes_hints S.failed g.E.Write.contents S.fault_form c.args.answer.now c.args.err.now first.new.err first.ensures.told
