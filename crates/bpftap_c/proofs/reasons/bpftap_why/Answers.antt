use Rattle.std.proofs.Common.{Ok, Err, refl, subst, sym}
use Rattle.std.specs.String.{string_bytes}
use Rattle.bpftap_c.specs.Memory.{PutsText}
use Rattle.bpftap_c.specs.Reasons.{Decides}
use Rattle.bpftap_c.proofs.reasons.bpftap_why.Goals as goal

pub returns-in-Ok : goal.returns-in-Ok
returns-in-Ok c = (
  Ok (string_bytes c.in-Ok.decision.line),
  c.put_text-told.result,
  c.verdict_code.result,
  subst (λ verdict. Decides c.args.text.now c.args.packet.now c.args.wire verdict (Ok (string_bytes c.in-Ok.decision.line))) (sym c.verdict_code.ensures) c.in-Ok.ensures.ok,
  subst (λ text. PutsText text c.args.to.now c.put_text-told.new.to c.put_text-told.result) c.as_bytes.ensures.value c.put_text-told.ensures,
  c.reason.ensures,
)

pub returns-in-Err : goal.returns-in-Err
returns-in-Err c = (Err c.in-Err.failure, c.failed.result, 0, c.in-Err.ensures.err, (c.failed.ensures, refl), c.reason-in-Err.ensures)
