use Rattle.std.proofs.Common.{◌≢◌, ◌∷◌, ◌++◌, ◌∙◌, rules, sym}
use Rattle.std.specs.Fmt.{decimal}
use Rattle.line_text.proofs.Cuts.{cut-one}
use Rattle.cli_parts.proofs.Reading.{lacks-cut}
use Rattle.cli_parts.proofs.fields.number_after.Goals as goal

pub returns-in_err-found-clause-whole : goal.returns-in_err-found-clause-whole
returns-in_err-found-clause-whole c = λ n rest small word is. absurd (lacks-cut 32 c.args.text.now c.args.word.now (decimal n ++ 32 ∷ rest) is c.in_err-found.ensures.none)

pub returns-then-ne-clause-whole : goal.returns-then-ne-clause-whole
returns-then-ne-clause-whole c = λ n rest small word is.
    let other : c.in_ok-found.found.now ≢ c.args.word.now = search rules in
    let one = cut-one 32 c.in_ok-found.found.now c.in_ok-found.rest.now c.args.word.now (decimal n ++ 32 ∷ rest) c.in_ok-found.ensures.first word (sym c.in_ok-found.ensures.parts ∙ is) in
    absurd (other one.0)

pub returns-clause-whole : goal.returns-clause-whole
returns-clause-whole c = λ n rest small word is.
    let one = cut-one 32 c.in_ok-found.found.now c.in_ok-found.rest.now c.args.word.now (decimal n ++ 32 ∷ rest) c.in_ok-found.ensures.first word (sym c.in_ok-found.ensures.parts ∙ is) in
    c.number_in.ensures.whole n rest small one.1
