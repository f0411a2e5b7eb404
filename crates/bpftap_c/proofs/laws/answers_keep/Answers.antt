use Rattle.bpftap_c.proofs.Stepping as stepping
use Rattle.bpftap_c.proofs.laws.answers_keep.Goals as goal

pub returns : goal.returns
returns c = stepping.answers_keep
