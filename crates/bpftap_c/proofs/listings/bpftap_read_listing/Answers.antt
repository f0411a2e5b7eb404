use Rattle.std.proofs.Common.{Ok, Err, refl, subst}
use Rattle.bpftap_c.specs.declared.outcome.Failure.TheVariants.{Listing}
use Rattle.bpftap_c.specs.Insns.{insns_of}
use Rattle.bpftap_c.specs.Memory.{Puts}
use Rattle.bpftap_c.proofs.listings.bpftap_read_listing.Goals as goal

pub returns-in-Ok : goal.returns-in-Ok
returns-in-Ok c = (
  Ok c.in-Ok.program,
  c.in-Ok.ensures.ok,
  subst (λ program. Puts program (insns_of c.args.insns.now) (insns_of c.put_insns.new.to) c.put_insns.result) c.insns.ensures.value c.put_insns.ensures,
)

pub returns-in-Err : goal.returns-in-Err
returns-in-Err c = (Err (Listing c.in-Err.fault), (c.in-Err.ensures.fault c.in-Err.fault).0 refl, (c.failed.ensures, refl))
