use Rattle.std.proofs.Common.{subst, sym}
use Rattle.std.proofs.lemmas.Result.{err_from_is_err_and}
use Rattle.cli_answers.specs.declared.form.PacketForm.TheVariants.{Text}
use Rattle.cli_explain.specs.Explained.{IsLineBroken}
use Rattle.cli_explain.proofs.Printing.{broken-line, prints-whole}
use Rattle.cli_explain.proofs.one.print_text.Goals as goal

pub returns-in_err-print_line-clause-prints : goal.returns-in_err-print_line-clause-prints
returns-in_err-print_line-clause-prints g c =
    let p = err_from_is_err_and c.from_residual.result c.from_residual.ensures.1 in
    broken-line c.args.printer.now.filter.now c.args.place c.args.packet.now _ _ c.from_residual.result p.0 p.1
    (subst (IsLineBroken Text c.args.printer.now.filter.now c.args.place c.args.packet.now _ _) (sym p.2) c.in_err-print_line.ensures.fault)

pub returns-clause-prints : goal.returns-clause-prints
returns-clause-prints g c = prints-whole c.args.printer.now.filter.now c.args.place c.args.packet.now _ _ _ _ c.print_rest.result c.in_ok-print_line.ensures.ok c.print_rest.ensures.prints
