use Rattle.std.proofs.Common.{arith}
use Rattle.listener.proofs.ArriveSteps.{seen_rejected, seen_cut}
use Rattle.listener.proofs.filter.kept_of.Goals as goal

pub returns-then-verdict-eq0-clause-rejected : goal.returns-then-verdict-eq0-clause-rejected
returns-then-verdict-eq0-clause-rejected c capture place =
    seen_rejected c.args.program.now c.args.snap.now capture place _ _ c.run-verdict.result c.packet.view_is c.run-verdict.ensures.verdict c.if-verdict-eq0.true

pub returns-clause-kept : goal.returns-clause-kept
returns-clause-kept c capture place =
    seen_cut c.args.program.now c.args.snap.now capture place _ _ c.run-verdict.result _ _ c.packet.view_is c.run-verdict.ensures.verdict (omega arith) c.min-most.ensures c.min.ensures
