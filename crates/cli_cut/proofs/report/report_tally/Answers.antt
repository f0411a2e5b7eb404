use Rattle.std.proofs.Common.{ℕ, List, Option, subst, sym}
use Rattle.line_text.specs.Sending.{TakesPart}
use Rattle.line_text.proofs.Taking.{TakesPart-none}
use Rattle.cli_cut.specs.Telling.{tally_line}
use Rattle.cli_cut.proofs.report.report_tally.Goals as goal

pub returns-in-Err-clause-taken : goal.returns-in-Err-clause-taken
returns-in-Err-clause-taken g c =
    let text = tally_line c.args.form c.args.tally in
    let before = g.E.Write.contents c.args.err.now in
    subst (λ (after : Option (List ℕ)). TakesPart before after text) (sym c.fail.ensures.taken) (TakesPart-none before text)

pub returns-in-Err-clause-told : goal.returns-in-Err-clause-told
returns-in-Err-clause-told g c = c.fail.ensures.told (tally_line c.args.form c.args.tally)
