use Rattle.std.proofs.KnownBytes.{Appends-nil}
use Rattle.std.proofs.lemmas.List.{take_all}
use Rattle.std.proofs.lemmas.Result.{err_from_is_err_and}
use Rattle.line_text.proofs.Taking.{TakesPart-numbered, Appends-numbered}
use Rattle.cli_split.specs.Printed.{line_text}
use Rattle.cli_split.proofs.report.write_parts.Goals as goal

pub loop-n-init : goal.loop-n-init
loop-n-init g c = Appends-nil (g.O.Write.contents c.args.out.now)

pub offset_bounds-parts-n : goal.offset_bounds-parts-n
offset_bounds-parts-n g c = c.loop-n.auto.n-end

pub bounds-parts-n : goal.bounds-parts-n
bounds-parts-n g c = c.loop-n-test.true

pub returns-in_err-write_part : goal.returns-in_err-write_part
returns-in_err-write_part g c =
    let p = err_from_is_err_and c.from_residual.result c.from_residual.ensures.1 in
    rw p.1 (TakesPart-numbered (line_text c.args.form c.args.lines.now) c.args.parts.now c.loop-n.n c.index-parts-n.result _ _ _ c.loop-n-test.true c.index-parts-n.is c.loop-n.invariant
    (rw c.output_at.ensures at c.in_err-write_part.ensures))

pub loop-n-preserved : goal.loop-n-preserved
loop-n-preserved g c =
    Appends-numbered (line_text c.args.form c.args.lines.now) c.args.parts.now c.loop-n.n c.index-parts-n.result _ _ _ c.loop-n-test.true c.index-parts-n.is c.loop-n.invariant
    (rw c.output_at.ensures at c.in_ok-write_part.ensures)

pub returns : goal.returns
returns g c = rw (take_all c.loop-n.n c.args.parts.now c.loop-n-test.false) at c.loop-n.invariant
