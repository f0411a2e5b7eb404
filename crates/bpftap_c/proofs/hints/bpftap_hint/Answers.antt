use Rattle.std.proofs.Common.{Ok, Err, refl, subst}
use Rattle.std.specs.String.{string_bytes}
use Rattle.bpftap_c.specs.Memory.{PutsText}
use Rattle.bpftap_c.proofs.hints.bpftap_hint.Goals as goal

pub returns-in-Ok : goal.returns-in-Ok
returns-in-Ok c = (
  Ok (string_bytes c.in-Ok.line),
  c.in-Ok.ensures.ok,
  subst (λ text. PutsText text c.args.to.now c.put_text.new.to c.put_text.result) c.as_bytes.ensures.value c.put_text.ensures,
)

pub returns-in-Err : goal.returns-in-Err
returns-in-Err c = (Err c.in-Err.failure, c.in-Err.ensures.err, (c.failed.ensures, refl))
