use Rattle.filtergen_code.proofs.code.Code.into_program.Goals as goal

pub returns-in-Ok-clause-reached : goal.returns-in-Ok-clause-reached
returns-in-Ok-clause-reached c = rw (c.in-Ok.ensures.ok, c.as_slice-2.ensures.value) c.trim_unreached-reached.ensures.reached
