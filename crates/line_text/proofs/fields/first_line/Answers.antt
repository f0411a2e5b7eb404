use Rattle.std.proofs.Common.{◌∙◌, ap, sym}
use Rattle.bpfvm.specs.Listing.{lines_of}
use Rattle.bpfvm.proofs.Lines.{lines_of-cut, lines_of-last, lines_of-some}
use Rattle.line_text.proofs.fields.first_line.Goals as goal

pub returns-in-Some-clause-first : goal.returns-in-Some-clause-first
returns-in-Some-clause-first c = λ some. sym (lines_of-some c.args.text.now some) ∙ ap lines_of c.in-Some.ensures.parts ∙ lines_of-cut c.in-Some.parts.0.now c.in-Some.parts.1.now c.in-Some.ensures.first

pub returns-in-None-clause-first : goal.returns-in-None-clause-first
returns-in-None-clause-first c = λ some. sym (lines_of-some c.args.text.now some) ∙ lines_of-last c.args.text.now c.in-None.ensures.none
