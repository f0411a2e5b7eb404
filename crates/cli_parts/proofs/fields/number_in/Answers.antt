use Rattle.std.proofs.Common.{arith}
use Rattle.std.specs.Fmt.{decimal}
use Rattle.cli_parts.proofs.Reading.{cut-decimal, lacks-cut, number-is, number-read}
use Rattle.cli_parts.proofs.fields.number_in.Goals as goal

pub returns-in_err-digits-clause-whole : goal.returns-in_err-digits-clause-whole
returns-in_err-digits-clause-whole c = λ n rest small is. absurd (lacks-cut 32 c.args.text.now (decimal n) rest is c.in_err-digits.ensures.none)

pub returns-in_err-number-clause-whole : goal.returns-in_err-number-clause-whole
returns-in_err-number-clause-whole c = λ n rest small is.
    let one = cut-decimal 32 n c.args.text.now c.in_ok-digits.digits.now c.in_ok-digits.rest.now rest (omega arith) small c.in_ok-digits.ensures.parts c.in_ok-digits.ensures.first is in
    absurd (number-read n c.in_ok-digits.digits.now small one.0 c.in_err-number.ensures.none)

pub returns-clause-whole : goal.returns-clause-whole
returns-clause-whole c = λ n rest small is.
    let one = cut-decimal 32 n c.args.text.now c.in_ok-digits.digits.now c.in_ok-digits.rest.now rest (omega arith) small c.in_ok-digits.ensures.parts c.in_ok-digits.ensures.first is in
    (number-is n c.in_ok-number.number c.in_ok-digits.digits.now small one.0 c.in_ok-number.ensures.some, one.1)
