use Rattle.std.proofs.Common.{◌≢◌, [], arith, rules, subst}
use Rattle.line_text.specs.Files.{IsFirstBad}
use Rattle.line_text.proofs.Reading.{IsRead-more, IsRead-bad}
use Rattle.cli_parts.specs.Lines.{IsPartLine}
use Rattle.cli_parts.proofs.lines.parts_of.Goals as goal

pub loop-rest-preserved : goal.loop-rest-preserved
loop-rest-preserved c =
    let rest : c.loop-rest.rest.now ≢ [] = search rules in
    let says : IsPartLine c.first_line.result.0.now c.in-Some.part = search rules in
    rw c.in_ok-push.ensures.items (IsRead-more IsPartLine _ _ _ c.loop-rest.parts.items _ c.in-Some.part (c.first_line.ensures.first rest) c.loop-rest.invariant says)

pub returns-in_default-clause-fault : goal.returns-in_default-clause-fault
returns-in_default-clause-fault c =
    let rest : c.loop-rest.rest.now ≢ [] = search rules in
    subst (IsFirstBad IsPartLine c.args.text.now) (omega arith)
    (IsRead-bad IsPartLine c.args.text.now _ _ c.loop-rest.parts.items _ (c.first_line.ensures.first rest) c.loop-rest.invariant (rw c.in_default.is at c.in_ok-part.ensures.none))
