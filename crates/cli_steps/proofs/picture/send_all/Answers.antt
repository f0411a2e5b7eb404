use Rattle.std.proofs.Common.{◌∙◌}
use Rattle.cli_steps.proofs.Drawing.{taken_more}
use Rattle.cli_steps.proofs.picture.send_all.Goals as goal

pub loop-rest-preserved : goal.loop-rest-preserved
loop-rest-preserved g c =
    let told = c.in_ok-written.ensures in
    let before = c.loop-rest.invariant in
    record {
      sent = taken_more _ _ _ c.args.bytes.now before.sent.0 c.loop-rest.rest.now c.in_ok-written.written told.count before.sent.1 before.sent.2 told.bytes;
      failures = told.failures ∙ before.failures;
      named = told.named ∙ before.named;
    }
