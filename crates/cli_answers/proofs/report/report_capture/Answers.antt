use Rattle.cli_answers.proofs.report.report_capture.Goals as goal

pub returns-clause-told : goal.returns-clause-told
returns-clause-told g c = (c.fault_of.result, c.fault_of.ensures, c.report_fault.ensures.told)
