use Rattle.std.proofs.Common.{subst}
use Rattle.std.proofs.KnownBytes.{Appends-nil}
use Rattle.std.proofs.lemmas.Result.{err_from_is_err_and}
use Rattle.std.specs.Io.KnownBytes.{Appends}
use Rattle.line_text.specs.Sending.{TakesPart}
use Rattle.line_text.proofs.Taking.{Takes-flushed}
use Rattle.cli_split.proofs.Printing.{printed-all, printed-none}
use Rattle.cli_split.proofs.report.print_split.Goals as goal

pub returns-then-not-was_begun-clause-taken : goal.returns-then-not-was_begun-clause-taken
returns-then-not-was_begun-clause-taken g c = subst (Appends _ _) (printed-none c.args.form c.args.lines.now c.args.end.now c.if-not-was_begun.ensures) (Appends-nil (g.O.Write.contents c.args.out.now))

pub returns-in_err-write_parts-clause-taken : goal.returns-in_err-write_parts-clause-taken
returns-in_err-write_parts-clause-taken g c =
    let p = err_from_is_err_and c.from_residual.result c.from_residual.ensures.1 in
    rw p.1 (subst (TakesPart _ _) (printed-all c.args.form c.args.lines.now c.args.end.now c.if-not-was_begun.ensures) (rw c.as_slice.ensures.value at c.in_err-write_parts.ensures))

pub returns-clause-taken : goal.returns-clause-taken
returns-clause-taken g c =
    Takes-flushed _ _ _ _ c.hand_on.result (subst (Appends _ _) (printed-all c.args.form c.args.lines.now c.args.end.now c.if-not-was_begun.ensures) (rw c.as_slice.ensures.value at c.in_ok-write_parts.ensures)) c.hand_on.ensures.bytes
