use Rattle.std.proofs.Common.{◌≡◌, [], sym, refl, ap, ◌∙◌, subst, Err, OnOk, OnErr, IfErr}
use Rattle.savefile.specs.declared.fault.Fault.TheVariants.{Device}
use Rattle.savefile.specs.Writer.{HasWritten, HasWrittenPart}
use Rattle.replay.proofs.Writes.{opens, fails-to-open, same-unless-different}
use Rattle.replay.proofs.capture_output.Written.open.Goals as goal
use Rattle.replay.proofs.capture_output.Written.open.Goals.{in-Ok, in-Err}

pub returns : goal.returns
returns g c =
    let o = c.args.output in
    let T = g.W.Sink.taken in
    let F = g.W.Sink.failures in
    let w = c.open-writer.result.0 in
    elim c.match-opened.branch [
      | in-Ok m ↦ opens T F o _ refl m.works-is
          (subst (λ r. OnOk r (HasWritten T (T o.sink) o.order o.unit o.snap [] w)) m.in-Ok.is c.open-writer.ensures.ok)
          (same-unless-different (F w.sink) (F o.sink) (λ differs. let bad = sym m.in-Ok.is ∙ c.open-writer.ensures.device.1 differs in absurd cc))
      | in-Err m ↦ fails-to-open T F o _ refl m.works-is
          (subst (λ r. OnErr r (HasWrittenPart T (T o.sink) o.order o.unit o.snap [] w)) m.in-Err.is c.open-writer.ensures.err)
          (c.open-writer.ensures.device.0 (m.in-Err.is ∙ ap Err (subst (λ r. IfErr r (λ fault. fault ≡ Device)) m.in-Err.is c.open-writer.ensures.only)))
    ]
