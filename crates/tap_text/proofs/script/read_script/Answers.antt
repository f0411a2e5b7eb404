use Rattle.std.proofs.Common.{◌≡◌, ◌≢◌, ◌+◌, [], length, rules, sym, ap, subst}
use Rattle.line_text.specs.Files.{IsFirstBad}
use Rattle.tap_text.specs.Script.{IsStepLine}
use Rattle.line_text.proofs.Reading.{IsRead-more, IsRead-bad}
use Rattle.tap_text.proofs.script.read_script.Goals as goal

pub returns-in-None-clause-fault : goal.returns-in-None-clause-fault
returns-in-None-clause-fault c =
    let rest : c.loop-rest.rest.now ≢ [] = search rules in
    let place : c.len.result ≡ length c.loop-rest.steps.items = search rules in
    subst (IsFirstBad IsStepLine c.args.text.now) (ap (λ n. n + 1) (sym place))
    (IsRead-bad IsStepLine c.args.text.now _ _ c.loop-rest.steps.items _ (c.first_line.ensures.first rest) c.loop-rest.invariant c.in-None.ensures.none)

pub loop-rest-preserved : goal.loop-rest-preserved
loop-rest-preserved c =
    let rest : c.loop-rest.rest.now ≢ [] = search rules in
    rw c.in_ok-push-in-Some.ensures.items
    (IsRead-more IsStepLine _ _ _ c.loop-rest.steps.items _ c.in-Some.step (c.first_line.ensures.first rest) c.loop-rest.invariant c.in-Some.ensures.some)
