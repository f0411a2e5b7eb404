use Rattle.bpfvm.proofs.Outcomes.{fronts-passed}
use Rattle.bpfvm.proofs.laws.runs_go_on_over_the_rest.Goals as goal

pub returns : goal.returns
returns c = fronts-passed
