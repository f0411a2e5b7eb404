use Rattle.cli_parts.proofs.line.read_part.Goals as goal

pub returns-in_default-clause-none : goal.returns-in_default-clause-none
returns-in_default-clause-none c = λ part is. c.in_default.ensures.whole part is.0 is.1
