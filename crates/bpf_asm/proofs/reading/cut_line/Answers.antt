use Rattle.bpf_asm.proofs.Lines.{cut_at, cut_none}
use Rattle.bpf_asm.proofs.reading.cut_line.Goals as goal

pub returns-in-Some-clause-more : goal.returns-in-Some-clause-more
returns-in-Some-clause-more c = cut_at c.args.text.now c.in-Some.line.now c.in-Some.rest.now c.in-Some.ensures.parts c.in-Some.ensures.first

pub returns-in-None-clause-last : goal.returns-in-None-clause-last
returns-in-None-clause-last c = cut_none c.args.text.now c.in-None.ensures.none
