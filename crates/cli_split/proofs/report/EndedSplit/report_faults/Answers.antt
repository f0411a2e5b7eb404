use Rattle.cli_split.proofs.report.EndedSplit.report_faults.Goals as goal

pub returns-clause-told : goal.returns-clause-told
returns-clause-told g c = (c.report_parts-parts.new.err, rw c.as_slice.ensures.value at c.report_parts-parts.ensures.told, c.report_stop.ensures.told)
