use Rattle.std.proofs.Common.{arith}
use Rattle.filtergen_code.proofs.Runs.{near-found, near-leading}
use Rattle.filtergen_code.proofs.code.Code.emit_relay.Goals as goal

pub returns-then-len-found : goal.returns-then-len-found
returns-then-len-found c = near-found c.args.place c.args.reach c.nearest_return-found.result c.args.self.now (omega arith) c.nearest_return-found.ensures.leads

pub returns-else-len-found : goal.returns-else-len-found
returns-else-len-found c =
    rw (c.len-else-len-found.ensures.value, c.emit.ensures) (near-leading _ c.args.place c.nearest_return-found.result c.args.reach c.args.self.now c.requires.place (omega arith) c.nearest_return-found.ensures.within c.jump_to-insn.ensures)
