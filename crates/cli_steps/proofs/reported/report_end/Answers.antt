use Rattle.cli_steps.proofs.reported.report_end.Goals as goal

pub returns : goal.returns
returns g c = (c.replay_fault.result, c.replay_fault.ensures, c.tell.ensures.told)
