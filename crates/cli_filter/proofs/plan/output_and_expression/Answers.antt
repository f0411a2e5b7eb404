use Rattle.std.proofs.Common.{◌≡◌, length, rules}
use Rattle.cli_filter.proofs.Fields.{no_fields_unnamed, no_fields_output, no_fields_expression}
use Rattle.cli_filter.proofs.plan.output_and_expression.Goals as goal

pub returns-then-is_empty-clause-none : goal.returns-then-is_empty-clause-none
returns-then-is_empty-clause-none c =
    let none : length c.cut_rest.result.0.now ≡ 0 = search rules in
    no_fields_unnamed _ _ _ c.cut_rest.ensures.cut c.cut_rest.ensures.word none

pub returns-in_default-clause-none : goal.returns-in_default-clause-none
returns-in_default-clause-none c = no_fields_output _ _ _ c.cut_rest.ensures.cut c.cut_rest.ensures.word c.in_default.ensures.cases.0

pub returns-in_default-from_utf8-clause-none : goal.returns-in_default-from_utf8-clause-none
returns-in_default-from_utf8-clause-none c = no_fields_expression _ _ _ c.cut_rest.ensures.cut c.cut_rest.ensures.word c.in_default-from_utf8.ensures.cases.0
