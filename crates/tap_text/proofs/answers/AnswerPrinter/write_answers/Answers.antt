use Rattle.std.proofs.Common.{◌+◌, [], refl, arith}
use Rattle.std.proofs.KnownBytes.{Appends-nil}
use Rattle.std.proofs.lemmas.Result.{err_from_is_err_and}
use Rattle.tap_steps.specs.declared.step.Step.TheVariants.{Arrive}
use Rattle.tap_text.proofs.Answering.{get_or_again, step_fails, step_done, all_done}
use Rattle.tap_text.proofs.answers.AnswerPrinter.write_answers.Goals as goal

pub returns-in_err-write_step : goal.returns-in_err-write_step
returns-in_err-write_step g c =
    let p = err_from_is_err_and c.from_residual.result c.from_residual.ensures.1 in
    rw p.1 (step_fails _ _ _ _ c.args.form c.loop-i.i (c.loop-i.i + 1) _ c.args.steps.now _ _ (omega arith) c.loop-i-test.true (get_or_again c.args.steps.now c.loop-i.i Arrive) c.loop-i.invariant c.in_err-write_step.ensures.text)

pub loop-i-preserved : goal.loop-i-preserved
loop-i-preserved g c =
    step_done _ _ _ _ c.args.form c.loop-i.i (c.loop-i.i + 1) _ c.args.steps.now _ _ (omega arith) c.loop-i-test.true (get_or_again c.args.steps.now c.loop-i.i Arrive) c.loop-i.invariant _ _ c.in_ok-write_step.ensures.packets c.in_ok-write_step.ensures.cursors c.in_ok-write_step.ensures.text

pub returns : goal.returns
returns g c = all_done _ _ _ c.args.form c.loop-i.i c.args.steps.now _ _ c.loop-i-test.false c.loop-i.invariant

pub loop-i-init : goal.loop-i-init
loop-i-init g c = ([], Appends-nil _, refl)
