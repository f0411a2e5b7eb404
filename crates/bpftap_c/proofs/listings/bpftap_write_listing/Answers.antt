use Rattle.std.proofs.Common.{Ok, Err, refl, subst}
use Rattle.bpftap_c.specs.Memory.{PutsText}
use Rattle.bpftap_c.proofs.listings.bpftap_write_listing.Goals as goal

pub returns-in-Ok : goal.returns-in-Ok
returns-in-Ok c = (
  Ok c.in-Ok.text.items,
  c.in-Ok.ensures.ok,
  subst (λ text. PutsText text c.args.to.now c.put_text.new.to c.put_text.result) c.deref.ensures.value c.put_text.ensures,
)

pub returns-in-Err : goal.returns-in-Err
returns-in-Err c = (Err c.in-Err.failure, c.in-Err.ensures.err, (c.failed.ensures, refl))
