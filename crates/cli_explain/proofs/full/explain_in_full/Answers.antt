use Rattle.std.proofs.Common.{◌≡◌, ◌∙◌, ap, arith, length, refl, subst, sym}
use Rattle.std.specs.List.{AllByRecursion}
use Rattle.fault_report.proofs.Telling.{more-more, more-none}
use Rattle.cli_answers.proofs.Statuses.{clean-both}
use Rattle.cli_explain.proofs.InFull.{leads-all, leads-first, leads-on, works-next}
use Rattle.cli_explain.proofs.full.explain_in_full.Goals as goal

pub loop-capture-preserved-then-goes_on : goal.loop-capture-preserved-then-goes_on
loop-capture-preserved-then-goes_on g c =
    let was = c.loop-capture.invariant in
    let steps = c.in-Some.ensures.steps.0 in
    let call = c.explain_places_of-end in
    let asked = c.args.asked.now in
    let works = λ (capture : g.row.F-Input.Denot). g.F.Input.Source.failures capture ≡ 0 in (
      tt,
      tt,
      (call.ensures.kept.0 ∙ was.2.0, call.ensures.kept.1 ∙ was.2.1, call.ensures.kept.2 ∙ was.2.2),
      omega (arith, was.3, ap length steps),
      more-more g.E.FaultSink.takes_hints g.E.FaultSink.failed g.E.Write.contents g.E.FaultSink.fault_form c.args.err.now _ _ was.4 call.ensures.more,
      (λ tells all. (works-next works _ _ _ steps (was.5 tells all)).1),
      (λ tells all. leads-on g.F.Input.Source.left g.O.Write.contents g.E.FaultSink.takes_hints g.E.FaultSink.failed g.E.Write.contents g.E.FaultSink.fault_form asked.paths.now asked.printer.form asked.printer.filter.now asked.places.first asked.places.last c.args.captures.items c.args.out.now c.args.err.now _ _ _ _ _ _ _ _ _ _ _ _ _ call.result
          steps (omega arith) c.max-status.ensures (call.ensures.stays tells) was.4 call.ensures.more (call.ensures.finds tells (works-next works _ _ _ steps (was.5 tells all)).0) (rw c.if-goes_on.true at (was.6 tells all))),
      (λ none clean. let (so_far, here) = clean-both c.loop-capture.status call.result.status (sym c.max-status.ensures ∙ clean) in call.ensures.handed_on (was.7 none so_far) here),
    )

pub loop-capture-init : goal.loop-capture-init
loop-capture-init g c =
    let asked = c.args.asked.now in
    let all = c.into_iter-capture-iterator.ensures.into_iter_gives.0 in
    let works = λ (capture : g.row.F-Input.Denot). g.F.Input.Source.failures capture ≡ 0 in (
      tt,
      tt,
      (refl, refl, refl),
      omega (arith, ap length all),
      more-none g.E.FaultSink.takes_hints g.E.FaultSink.failed g.E.Write.contents g.E.FaultSink.fault_form c.args.err.now,
      (λ tells given. subst (AllByRecursion works) (sym all) given),
      (λ tells given. leads-first g.F.Input.Source.left g.O.Write.contents g.E.FaultSink.takes_hints g.E.FaultSink.failed g.E.Write.contents g.E.FaultSink.fault_form asked.paths.now asked.printer.form asked.printer.filter.now asked.places.first asked.places.last c.args.captures.items c.args.out.now c.args.err.now (g.F.FileStore.failed c.args.files.now) c.into_iter-capture-iterator.result.rest.items all),
      (λ none clean. none),
    )

pub returns-clause-finds : goal.returns-clause-finds
returns-clause-finds g c =
    let asked = c.args.asked.now in
    let loop = c.loop-capture in
    λ tells given. leads-all g.F.Input.Source.left g.O.Write.contents g.E.FaultSink.takes_hints g.E.FaultSink.failed g.E.Write.contents g.E.FaultSink.fault_form asked.paths.now asked.printer.form asked.printer.filter.now asked.places.first asked.places.last c.args.captures.items c.args.out.now c.args.err.now (g.F.FileStore.failed loop.files) loop.goes_on loop.err loop.number loop.status loop.capture-iterator.rest.items loop.out
    (omega (arith, c.in-None.ensures.steps.0, loop.capture-iterator.rest.ok)) (loop.invariant.6 tells given)
