use Rattle.std.proofs.Common.{length, ap, ◌∙◌}
use Rattle.tap_steps.proofs.Loads.{load_is}
use Rattle.tap_steps.proofs.watched.Before.of.Goals as goal

pub returns-clause-load : goal.returns-clause-load
returns-clause-load c =
    ap length c.bytes.ensures
    ∙ load_is c.buffers.result.0.now.messages c.buffers.result.1.now.messages c.args.listener.now.list c.buffers.ensures.pending c.buffers.ensures.held
