use Rattle.std.proofs.Common.{◌≡◌, ◌++◌, rules}
use Rattle.std.specs.Prelude.{codes}
use Rattle.line_text.proofs.Capacities.{no-immediate}
use Rattle.line_text.proofs.Cuts.{if_none}
use Rattle.line_text.proofs.fields.capacity_and_mode.Goals as goal

pub returns-in_err-number-clause-none : goal.returns-in_err-number-clause-none
returns-in_err-number-clause-none c =
    let cut : c.args.text.now ≡ c.in-Some.digits.now ++ codes "i" = search rules in
    if_none _ _ (no-immediate c.args.text.now c.in-Some.digits.now cut c.in_err-number.ensures.none)
