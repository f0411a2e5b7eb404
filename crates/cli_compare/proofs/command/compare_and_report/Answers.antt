use Rattle.std.proofs.Common.{◌≡◌, ◌≢◌, ◌∙◌, List, [], subst, sym, arith, vec_len}
use Rattle.std.proofs.lemmas.Bool.{eqb-true}
use Rattle.cli_compare.specs.Deciding.{IsAnswerStatus}
use Rattle.cli_compare.proofs.Asking.{none-there}
use Rattle.cli_compare.proofs.command.compare_and_report.Goals as goal

pub returns-then-is_empty-clause-answers : goal.returns-then-is_empty-clause-answers
returns-then-is_empty-clause-answers g c tells =
    let inputs = c.args.words.now.inputs in
    let none = none-there inputs.items (let is = eqb-true (vec_len inputs) 0 (sym c.is_empty.ensures ∙ c.if-is_empty.true) in omega (arith, is, inputs.ok)) in
    record { decided = λ _. c.decide_files.ensures.answers tells; sought = λ some quiet. absurd (some none); compared = λ some loud. absurd (some none) }

pub returns-then-is_empty-clause-handed_on : goal.returns-then-is_empty-clause-handed_on
returns-then-is_empty-clause-handed_on g c none clean = c.decide_files.ensures.handed_on none (subst IsAnswerStatus (sym clean) tt)

pub returns-then-is_empty-clause-kept : goal.returns-then-is_empty-clause-kept
returns-then-is_empty-clause-kept g c some =
    let inputs = c.args.words.now.inputs in
    absurd (some (none-there inputs.items (let is = eqb-true (vec_len inputs) 0 (sym c.is_empty.ensures ∙ c.if-is_empty.true) in omega (arith, is, inputs.ok))))
