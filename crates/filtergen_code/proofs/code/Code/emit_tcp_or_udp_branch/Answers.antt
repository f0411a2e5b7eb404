use Rattle.std.proofs.Common.{◌==◌}
use Rattle.filtergen_code.proofs.Runs.{chooses-either}
use Rattle.filtergen_code.proofs.code.Code.emit_tcp_or_udp_branch.Goals as goal

pub returns : goal.returns
returns c = chooses-either (λ r. r.accumulator == 6) (λ r. r.accumulator == 17) c.requires.1 c.len-no.ensures.value c.emit_branch.ensures c.emit_branch-2.ensures
