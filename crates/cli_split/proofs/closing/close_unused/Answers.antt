use Rattle.std.proofs.Common.{◌≡◌, ◌∙◌, ◌∷◌, [], All, Some, ap, arith, length, refl, subst, IfSome}
use Rattle.std.specs.Str.{bytes_eq}
use Rattle.cli_store.specs.Files.{BeginsAt}
use Rattle.cli_split.proofs.Closings.{nothing-put}
use Rattle.cli_split.proofs.OwnFiles.{all-head, all-tail}
use Rattle.cli_split.proofs.closing.close_unused.Goals as goal

pub loop-part-preserved : goal.loop-part-preserved
loop-part-preserved g c =
    let was = c.loop-part.invariant in
    let steps = c.in-Some.ensures.steps.0 in
    let part = c.in-Some.part in
    let old = g.F.FileStore.text c.loop-part.files in
    let new = g.F.FileStore.text c.close.new.self in
    let at = g.F.Output.Sink.name part.sink in (
      tt,
      tt,
      c.close.ensures.places ∙ was.2,
      (λ tells p.
          let none = all-head (λ q. g.F.Output.Sink.taken q.sink ≡ Some []) part c.next.new.self.rest.items (subst (All (λ q. g.F.Output.Sink.taken q.sink ≡ Some [])) steps (was.5 tells)) in
          let kept = subst (λ t. IfSome t (BeginsAt old new at)) none (c.close.ensures.begun tells) in
          nothing-put (bytes_eq p at) old new at p refl (c.close.ensures.spared tells) (kept.0 refl) ∙ was.3 tells p),
      (λ tells. omega (arith, was.4 tells, c.close.ensures.pending tells, ap length steps)),
      (λ tells. all-tail (λ q. g.F.Output.Sink.taken q.sink ≡ Some []) part c.next.new.self.rest.items (subst (All (λ q. g.F.Output.Sink.taken q.sink ≡ Some [])) steps (was.5 tells))),
      c.close.ensures.denied ∙ was.6,
    )
