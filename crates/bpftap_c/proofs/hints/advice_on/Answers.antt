use Rattle.bpftap_c.proofs.Hinting.{no-fault}
use Rattle.bpftap_c.proofs.hints.advice_on.Goals as goal

pub returns-in-None-None : goal.returns-in-None-None
returns-in-None-None c = no-fault c.args.code c.in-None-None.ensures.none c.in-None-None.ensures'.none
