use Rattle.std.proofs.Common.{◌≢◌, codes, rules, ◌∙◌, ap, sym, Some}
use Rattle.cli_parts.proofs.Reading.{end-faulty, end-is, end-there}
use Rattle.cli_parts.proofs.fields.end_in.Goals as goal

pub returns-in_err-name-clause-whole : goal.returns-in_err-name-clause-whole
returns-in_err-name-clause-whole c = λ fault rest end is. absurd (end-there fault c.args.text.now rest end is c.in_err-name.ensures.none)

pub returns-in_err-place-clause-whole : goal.returns-in_err-place-clause-whole
returns-in_err-place-clause-whole c = λ fault rest end is.
    let dirty : c.in_ok-name.name.now ≢ codes "Clean" = search rules in
    let one = end-faulty fault rest _ _ (end-is fault c.args.text.now rest c.in_ok-name.name.now c.in_ok-name.rest.now end is c.in_ok-name.ensures.parts c.in_ok-name.ensures.first) dirty in
    absurd (c.in_err-place.ensures.whole one.place rest one.small one.tail)

pub returns-in_err-fault-clause-whole : goal.returns-in_err-fault-clause-whole
returns-in_err-fault-clause-whole c = λ fault rest end is.
    let dirty : c.in_ok-name.name.now ≢ codes "Clean" = search rules in
    let one = end-faulty fault rest _ _ (end-is fault c.args.text.now rest c.in_ok-name.name.now c.in_ok-name.rest.now end is c.in_ok-name.ensures.parts c.in_ok-name.ensures.first) dirty in
    let number = c.in_ok-place.ensures.whole one.place rest one.small one.tail in
    let none = c.in_err-fault.ensures.whole one.of one.end one.named (one.at ∙ ap (λ n. Some n) (sym number.0)) in
    absurd cc

pub returns-clause-whole : goal.returns-clause-whole
returns-clause-whole c = λ fault rest end is.
    let dirty : c.in_ok-name.name.now ≢ codes "Clean" = search rules in
    let one = end-faulty fault rest _ _ (end-is fault c.args.text.now rest c.in_ok-name.name.now c.in_ok-name.rest.now end is c.in_ok-name.ensures.parts c.in_ok-name.ensures.first) dirty in
    let number = c.in_ok-place.ensures.whole one.place rest one.small one.tail in
    let some = c.in_ok-fault.ensures.whole one.of one.end one.named (one.at ∙ ap (λ n. Some n) (sym number.0)) in
    (some ∙ sym one.is, number.1)
