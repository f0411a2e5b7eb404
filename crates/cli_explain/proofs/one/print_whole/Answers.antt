use Rattle.cli_explain.proofs.one.print_whole.Goals as goal

pub returns-in-Text-clause-prints : goal.returns-in-Text-clause-prints
returns-in-Text-clause-prints g c = rw c.in-Text.is c.print_text.ensures.prints

pub returns-in-Json-clause-prints : goal.returns-in-Json-clause-prints
returns-in-Json-clause-prints g c = rw c.in-Json.is c.print_object.ensures.prints
