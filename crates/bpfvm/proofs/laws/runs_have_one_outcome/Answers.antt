use Rattle.bpfvm.proofs.Outcomes.{effects-one, steps-one, answers-one}
use Rattle.bpfvm.proofs.laws.runs_have_one_outcome.Goals as goal

pub returns-clause-effects : goal.returns-clause-effects
returns-clause-effects c = effects-one

pub returns-clause-steps : goal.returns-clause-steps
returns-clause-steps c = steps-one

pub returns-clause-answers : goal.returns-clause-answers
returns-clause-answers c = answers-one
