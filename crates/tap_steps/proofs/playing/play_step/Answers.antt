use Rattle.std.proofs.Common.{◌≡◌, suc, ◌+◌, length, sym, ap, ◌∙◌, arith, subst}
use Rattle.tap_steps.specs.Watching.{CountsFit}
use Rattle.tap_steps.proofs.Counting.{length_one, fit_flush, fit_read, fit_close, fit_arrived, fit_less}
use Rattle.tap_steps.proofs.playing.play_step.Goals as goal

pub arrive_all-requires : goal.arrive_all-requires
arrive_all-requires c =
    let n = c.in-Some.ensures.cases.1 in
    fit_less (length c.args.rest.now) 1 c.args.watched.now.items (omega arith) c.requires.fit

pub returns-in-Arrive-clause-fit : goal.returns-in-Arrive-clause-fit
returns-in-Arrive-clause-fit c =
    rw c.in_ok-arrive_all-in-Arrive.ensures (fit_arrived (length c.in-Some.left.now) c.in-Some.placed.now c.args.watched.now.items
    (subst (λ n. CountsFit n c.args.watched.now.items) (sym c.in-Some.ensures.cases.1 ∙ (let e : length c.in-Some.left.now + 1 ≡ suc (length c.in-Some.left.now) = omega arith in e)) c.requires.fit))

pub returns-in-Flush-clause-fit : goal.returns-in-Flush-clause-fit
returns-in-Flush-clause-fit c = rw c.in_ok-flush_one-in-Flush.ensures (fit_flush _ _ _ c.requires.fit)

pub returns-in-Flush-clause-len : goal.returns-in-Flush-clause-len
returns-in-Flush-clause-len c = ap length c.in_ok-flush_one-in-Flush.ensures ∙ length_one _ _ c.args.watched.now.items

pub returns-in-Read-clause-fit : goal.returns-in-Read-clause-fit
returns-in-Read-clause-fit c = rw c.in_ok-read_one-in-Read.ensures (fit_read _ _ _ c.requires.fit)

pub returns-in-Read-clause-len : goal.returns-in-Read-clause-len
returns-in-Read-clause-len c = ap length c.in_ok-read_one-in-Read.ensures ∙ length_one _ _ c.args.watched.now.items

pub returns-in-Close-clause-fit : goal.returns-in-Close-clause-fit
returns-in-Close-clause-fit c = rw c.in_ok-close_one-in-Close.ensures (fit_close _ _ _ c.requires.fit)

pub returns-in-Close-clause-len : goal.returns-in-Close-clause-len
returns-in-Close-clause-len c = ap length c.in_ok-close_one-in-Close.ensures ∙ length_one _ _ c.args.watched.now.items
