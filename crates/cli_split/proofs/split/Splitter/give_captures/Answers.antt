use Rattle.std.proofs.Common.{[], ◌∷◌, ◌++◌, ap, arith, length, length-append, refl, subst, sym}
use Rattle.std.proofs.lemmas.List.{append-nil}
use Rattle.cli_split.specs.Reading.{ReadsSoFar}
use Rattle.cli_split.specs.Standing.{HasSplit}
use Rattle.cli_split.proofs.Lists.{as-many}
use Rattle.cli_split.proofs.Readings.{read-all}
use Rattle.cli_split.proofs.Steps.{IsNext, parts-on, passes-on, reads-on}
use Rattle.cli_split.proofs.split.Splitter.give_captures.Goals as goal

pub loop-source-init : goal.loop-source-init
loop-source-init g c = (
  tt,
  tt,
  c.requires.so_far,
  (λ order unit packets parts all has so. (
    [],
    subst (λ ps. HasSplit g.W.Sink.taken g.W.Sink.name g.W.Sink.failures order unit ps parts c.args.self.now) (sym (append-nil packets)) has,
    subst (λ xs. ReadsSoFar g.R.Source.left g.R.Source.failures all c.args.sources.items (length c.args.sources.items) xs (packets ++ []) c.args.first) (sym c.into_iter-source-iterator.ensures.into_iter_gives.0)
        (subst (λ ps. ReadsSoFar g.R.Source.left g.R.Source.failures all c.args.sources.items (length c.args.sources.items) c.args.captures.items ps c.args.first) (sym (append-nil packets)) so),
  )),
  (λ passes. passes),
  c.requires.behind,
  omega (arith, c.requires.room, ap length c.into_iter-source-iterator.ensures.into_iter_gives.0),
)

pub loop-source-preserved : goal.loop-source-preserved
loop-source-preserved g c =
    let L = g.R.Source.left in
    let B = g.R.Source.failures in
    let T = g.W.Sink.taken in
    let N = g.W.Sink.name in
    let F = g.W.Sink.failures in
    let call = c.give_capture-source in
    let next : IsNext L B T N F c.in-Some.source call.result.0 c.len.result c.loop-source.self call.new.self c.loop-source.end call.result.1 = (call.ensures.reads, call.ensures.unread) in
    let few = as-many _ _ c.in-Some.source _ _ call.result.0 _ refl c.in-Some.ensures.steps.0 c.push_reserved.ensures.items in (
      tt,
      tt,
      parts-on L B T N F c.in-Some.source call.result.0 c.len.result _ call.new.self c.loop-source.end call.result.1 next c.loop-source.invariant.2,
      (λ order unit packets parts all has so.
          let (more, now, so_far) = c.loop-source.invariant.3 order unit packets parts all has so in
          reads-on L B T N F order unit packets more parts all _ _ c.in-Some.source call.result.0 _ _ c.len.result _ call.new.self c.loop-source.end call.result.1
          now so_far c.in-Some.ensures.steps.0 c.push_reserved.ensures.items (omega (arith, c.len.ensures, c.loop-source.sources.ok)) next),
      (λ passes. passes-on L B T N F c.in-Some.source call.result.0 c.len.result _ call.new.self c.loop-source.end call.result.1 (omega (arith, c.len.ensures, c.loop-source.sources.ok, c.loop-source.invariant.5)) next (c.loop-source.invariant.4 passes)),
      omega (arith, ap length c.push_reserved.ensures.items, length-append c.loop-source.sources.items (call.result.0 ∷ [])),
      omega (arith, few, c.loop-source.invariant.6, c.push_reserved.ensures.capacity),
    )

pub returns-clause-reads : goal.returns-clause-reads
returns-clause-reads g c = λ order unit packets parts all has so.
    let (more, now, so_far) = c.loop-source.invariant.3 order unit packets parts all has so in
    (more, read-all g.R.Source.left g.R.Source.failures all _ _ _ _ _ so_far (omega (arith, c.in-None.ensures.steps.0, c.loop-source.source-iterator.rest.ok)), now)

pub push_reserved-requires : goal.push_reserved-requires
push_reserved-requires g c = omega (arith, c.loop-source.sources.ok, c.loop-source.invariant.6, ap length c.in-Some.ensures.steps.0)
