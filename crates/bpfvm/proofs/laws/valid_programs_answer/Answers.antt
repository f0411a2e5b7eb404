use Rattle.bpfvm.proofs.Outcomes.{go-on, answered, verdict-reached}
use Rattle.bpfvm.proofs.laws.valid_programs_answer.Goals as goal

pub returns-clause-step : goal.returns-clause-step
returns-clause-step c = go-on

pub returns-clause-run : goal.returns-clause-run
returns-clause-run c = answered

pub returns-clause-verdict : goal.returns-clause-verdict
returns-clause-verdict c = verdict-reached
