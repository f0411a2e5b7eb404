use Rattle.std.proofs.Common.{Some}
use Rattle.line_text.specs.declared.form.LineForm.TheVariants.{Text}
use Rattle.cli_compare.specs.Telling.{below}
use Rattle.cli_compare.proofs.report.print_name.Goals as goal

pub returns-in-Err : goal.returns-in-Err
returns-in-Err g c = c.fail.ensures.told (below (Some c.args.name.now) Text)
