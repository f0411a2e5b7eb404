use Rattle.std.proofs.Common.{sym, ◌∙◌}
use Rattle.cli_cut.proofs.Several.{failed_first}
use Rattle.cli_cut.proofs.captures.is_unread.Goals as goal

pub returns-in-Some : goal.returns-in-Some
returns-in-Some c = λ unread. failed_first c.args.end.now c.in-Some.part.now c.in-Some.field-0-1.now (sym c.deref.ensures.value ∙ c.in-Some.ensures.cases.0) (c.is_part_unread.ensures unread)
