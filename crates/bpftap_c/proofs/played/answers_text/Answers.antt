use Rattle.std.proofs.lemmas.Result.{err_from_is_err_and}
use Rattle.bpftap_c.proofs.Playing.{is_answered, is_unplayed}
use Rattle.bpftap_c.proofs.played.answers_text.Goals as goal

pub returns-in-Ok-clause-ok : goal.returns-in-Ok-clause-ok
returns-in-Ok-clause-ok c =
    let told = c.in_ok-trace.ensures in
    let stands = rw (c.as_slice.ensures.value, c.in_ok-captures.ensures, c.as_slice-specs.ensures.value, c.as_slice-steps.ensures.value) at told.stands in
    let tells = rw (c.as_slice.ensures.value, c.in_ok-captures.ensures, c.as_slice-specs.ensures.value, c.as_slice-steps.ensures.value) at told.tells in
    let answers = rw (c.as_slice.ensures.value, c.in_ok-captures.ensures, c.as_slice-specs.ensures.value, c.as_slice-steps.ensures.value) at told.answers in
    let expressions = rw c.as_slice-specs.ensures.value at told.expressions in
    let cursors = rw c.as_slice-specs.ensures.value at c.in_ok-printer.ensures.cursors in
    let taken = rw (cursors, c.in_ok-printer.ensures.packets, c.new-text.ensures.items, c.as_slice-steps.ensures.value) at c.in-Ok.ensures in
    is_answered _ _ _ _ _ _ _ _ _ _ _ _ c.in_ok-plan.ensures.listeners c.in_ok-plan.ensures.script tells stands answers expressions taken

pub returns-in_err-plan-clause-err : goal.returns-in_err-plan-clause-err
returns-in_err-plan-clause-err c =
    let p = err_from_is_err_and c.from_residual-in_err-plan.result c.from_residual-in_err-plan.ensures.1 in
    rw (p.1, p.2) c.in_err-plan.ensures.fault

pub returns-in_err-trace-clause-err : goal.returns-in_err-trace-clause-err
returns-in_err-trace-clause-err c =
    let p = err_from_is_err_and c.from_residual-in_err-trace.result c.from_residual-in_err-trace.ensures.1 in
    let first = rw (c.as_slice.ensures.value, c.in_ok-captures.ensures, c.as_slice-specs.ensures.value, c.as_slice-steps.ensures.value) at c.in_err-trace.ensures.first in
    rw (p.1, p.2) (is_unplayed c.args.listeners.now c.args.script.now _ _ _ _ c.in_ok-plan.ensures.listeners c.in_ok-plan.ensures.script first)
