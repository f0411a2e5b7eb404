use Rattle.bpfvm.proofs.Traces.{traces-one, traces-reach}
use Rattle.bpfvm.proofs.laws.traces_are_unique.Goals as goal

pub returns-clause-one : goal.returns-clause-one
returns-clause-one c = traces-one

pub returns-clause-steps : goal.returns-clause-steps
returns-clause-steps c = traces-reach
