use Rattle.std.proofs.Common.{◌∷◌, ◌++◌, ◌∙◌, ◌<◌, ◌^◌, arith}
use Rattle.std.specs.Fmt.{decimal}
use Rattle.cli_parts.proofs.Reading.{cut-decimal, lacks-cut, number-is, number-read, range-cut}
use Rattle.cli_parts.proofs.fields.range_in.Goals as goal

pub returns-in_err-digits-clause-whole : goal.returns-in_err-digits-clause-whole
returns-in_err-digits-clause-whole c = λ first end rest ordered small is.
    absurd (lacks-cut 45 c.args.text.now (decimal first) (decimal end ++ 32 ∷ rest) (is ∙ range-cut first end rest) c.in_err-digits.ensures.none)

pub returns-in_err-first-clause-whole : goal.returns-in_err-first-clause-whole
returns-in_err-first-clause-whole c = λ first end rest ordered small is.
    let low : first < 2 ^ 64 = omega arith in
    let one = cut-decimal 45 first c.args.text.now c.in_ok-digits.digits.now c.in_ok-digits.rest.now (decimal end ++ 32 ∷ rest) (omega arith) low c.in_ok-digits.ensures.parts c.in_ok-digits.ensures.first (is ∙ range-cut first end rest) in
    absurd (number-read first c.in_ok-digits.digits.now low one.0 c.in_err-first.ensures.none)

pub returns-in_err-end-clause-whole : goal.returns-in_err-end-clause-whole
returns-in_err-end-clause-whole c = λ first end rest ordered small is.
    let low : first < 2 ^ 64 = omega arith in
    let one = cut-decimal 45 first c.args.text.now c.in_ok-digits.digits.now c.in_ok-digits.rest.now (decimal end ++ 32 ∷ rest) (omega arith) low c.in_ok-digits.ensures.parts c.in_ok-digits.ensures.first (is ∙ range-cut first end rest) in
    absurd (c.in_err-end.ensures.whole end rest small one.1)

pub returns-then-end-first-clause-whole : goal.returns-then-end-first-clause-whole
returns-then-end-first-clause-whole c = λ first end rest ordered small is.
    let low : first < 2 ^ 64 = omega arith in
    let one = cut-decimal 45 first c.args.text.now c.in_ok-digits.digits.now c.in_ok-digits.rest.now (decimal end ++ 32 ∷ rest) (omega arith) low c.in_ok-digits.ensures.parts c.in_ok-digits.ensures.first (is ∙ range-cut first end rest) in
    let same = number-is first c.in_ok-first.first c.in_ok-digits.digits.now low one.0 c.in_ok-first.ensures.some in
    let last = (c.in_ok-end.ensures.whole end rest small one.1).0 in
    absurd (omega arith)

pub returns-clause-whole : goal.returns-clause-whole
returns-clause-whole c = λ first end rest ordered small is.
    let low : first < 2 ^ 64 = omega arith in
    let one = cut-decimal 45 first c.args.text.now c.in_ok-digits.digits.now c.in_ok-digits.rest.now (decimal end ++ 32 ∷ rest) (omega arith) low c.in_ok-digits.ensures.parts c.in_ok-digits.ensures.first (is ∙ range-cut first end rest) in
    let same = number-is first c.in_ok-first.first c.in_ok-digits.digits.now low one.0 c.in_ok-first.ensures.some in
    let found = c.in_ok-end.ensures.whole end rest small one.1 in
    (same, found.0, found.1)
