use Rattle.std.proofs.Common.{◌≡◌, ◌∙◌, ◌∷◌, ◌<◌, [], All, Some, ap, arith, length, refl, subst, sym}
use Rattle.cli_split.specs.Lines.{IsCompiled}
use Rattle.cli_split.proofs.Openings.{all-push, made-next, pushed-length}
use Rattle.cli_split.proofs.opening.make_parts.Goals as goal

pub loop-program-preserved : goal.loop-program-preserved
loop-program-preserved g c =
    let was = c.loop-program.invariant in
    let steps = c.in-Some.ensures.steps.0 in
    let items = c.push_reserved.ensures.items in
    let longer = pushed-length _ _ _ items in
    let here : c.len.result ≡ length c.loop-program.parts.items = omega (arith, c.len.ensures, c.loop-program.parts.ok) in
    let inside : c.len.result < length c.args.lines.now = omega (arith, here, was.2, ap length steps) in (
      tt,
      tt,
      omega (arith, was.2, ap length steps, longer),
      omega (arith, was.3, c.push_reserved.ensures.capacity),
      c.create.ensures.places ∙ was.4,
      c.create.ensures.texts ∙ was.5,
      c.create.ensures.opened ∙ was.6,
      (λ tells. omega (arith, was.7 tells, c.in-Ok.ensures.pending tells, longer)),
      (λ tells. subst (All (λ q. g.F.Output.Sink.taken q.sink ≡ Some [])) (sym items)
          (all-push (λ q. g.F.Output.Sink.taken q.sink ≡ Some []) c.loop-program.parts.items _ (was.8 tells) (c.in-Ok.ensures.empty tells))),
      (λ tells each. made-next g.F.Output.Sink.taken g.F.Output.Sink.name g.F.Output.Sink.failures (g.F.FileStore.place c.args.files.now) IsCompiled c.args.lines.now _ c.len.result c.loop-program.parts.items
          c.push_reserved.new.self.items c.loop-program.program-iterator.rest.items c.next.new.self.rest.items c.in-Some.program _ (g.F.FileStore.place c.loop-program.files) here inside steps items refl refl
          (c.in-Ok.ensures.named tells) was.4 (c.in-Ok.ensures.empty tells) (c.in-Ok.ensures.works tells) (was.9 tells each)),
    )
