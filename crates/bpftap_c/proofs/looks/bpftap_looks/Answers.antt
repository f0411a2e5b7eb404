use Rattle.std.proofs.Common.{List, Ok, Err, map, refl, subst}
use Rattle.filter_meaning.specs.declared.frame.Look.{Look}
use Rattle.bpftap_c.specs.Looks.{look_of}
use Rattle.bpftap_c.specs.Memory.{Puts}
use Rattle.bpftap_c.proofs.looks.bpftap_looks.Goals as goal

pub returns-in-Ok : goal.returns-in-Ok
returns-in-Ok c = (
  Ok (map look_of c.in-Ok.looks.items),
  c.in-Ok.ensures.ok,
  subst (λ (looks : List Look). Puts (map look_of looks) c.args.to.now c.put_looks.new.to c.put_looks.result) c.deref.ensures.value c.put_looks.ensures,
)

pub returns-in-Err : goal.returns-in-Err
returns-in-Err c = (Err c.in-Err.failure, c.in-Err.ensures.err, (c.failed.ensures, refl))
