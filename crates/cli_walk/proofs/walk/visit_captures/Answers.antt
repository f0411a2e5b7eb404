use Rattle.std.proofs.Common.{◌∷◌, ap, arith, inl, length, length-append, []}
use Rattle.cli_walk.proofs.Walking.{walks-all, walks-on}
use Rattle.cli_walk.proofs.walk.visit_captures.Goals as goal

pub loop-capture-preserved : goal.loop-capture-preserved
loop-capture-preserved g c =
    let visits = g.V.Visitor.visits c.args.visitor.now in
    let call = c.visit_next-source in
    let more = length-append c.loop-capture.sources.items (call.result.0 ∷ []) in (
      tt,
      tt,
      walks-on g.R.Source.left g.R.Source.failures visits _ _ _ _ _ _ _ _ c.in-Some.capture call.result.0 _ _ _ _ _ _ _ _ c.loop-capture.invariant.2 c.in-Some.ensures.steps.0 c.push_reserved.ensures.items
          (omega (arith, ap length c.push_reserved.ensures.items, more)) (omega (arith, c.len-in-loop-capture.ensures, c.loop-capture.sources.ok)) (call.ensures.visits, call.ensures.stays),
      omega (arith, ap length c.push_reserved.ensures.items, more, c.push_reserved.ensures.capacity, c.loop-capture.invariant.3, ap length c.in-Some.ensures.steps.0),
    )

pub returns : goal.returns
returns g c =
    inl (walks-all g.R.Source.left g.R.Source.failures (g.V.Visitor.visits c.args.visitor.now) _ _ _ _ _ _ _ _ _ c.loop-capture.invariant.2 (omega (arith, c.in-None.ensures.steps.0, c.loop-capture.capture-iterator.rest.ok)))
