use Rattle.std.specs.Prelude.{string_bytes}
use Rattle.std.proofs.lemmas.Result.{err_from_is_err_and}
use Rattle.cli_compare.proofs.Witnesses.{unanswered-by}
use Rattle.cli_compare.proofs.sameness.print_sameness.Goals as goal
use Rattle.cli_compare.proofs.sameness.print_sameness.Goals.{in-Short-2, in-Differ-2, in-Same-2}

pub returns-in_err-send_last-clause-fault : goal.returns-in_err-send_last-clause-fault
returns-in_err-send_last-clause-fault g c =
    let p = err_from_is_err_and c.from_residual-in_err-send_last.result c.from_residual-in_err-send_last.ensures.1 in
    unanswered-by c.args.form c.args.decider.now.pair.now c.args.budget c.in_ok-sameness.sameness c.as_bytes.result.now (string_bytes c.in_ok-text.text) _ _ _ p.0 c.from_residual-in_err-send_last.result p.1 p.2
    c.in_ok-sameness.ensures c.as_bytes.ensures.value c.in_ok-text.ensures c.in_err-send_last.ensures.taken
