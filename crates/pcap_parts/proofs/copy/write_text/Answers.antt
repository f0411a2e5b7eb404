use Rattle.std.proofs.Common.{◌∙◌, arith}
use Rattle.pcap_parts.proofs.Copied.{IsLeft-slice}
use Rattle.pcap_parts.proofs.copy.write_text.Goals as goal

pub loop-rest-preserved : goal.loop-rest-preserved
loop-rest-preserved g c = record {
  sent = IsLeft-slice _ _ _ _ c.loop-rest.rest.now c.in-Ok.taken (omega (arith, c.in-Ok.ensures.count)) c.loop-rest.invariant.sent c.in-Ok.ensures.bytes;
  named = c.in-Ok.ensures.named ∙ c.loop-rest.invariant.named;
  failures = c.in-Ok.ensures.failures ∙ c.loop-rest.invariant.failures;
}
