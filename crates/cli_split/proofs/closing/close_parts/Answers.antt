use Rattle.std.proofs.Common.{◌∷◌, ◌∙◌, [], ap, arith, length, length-append, refl}
use Rattle.cli_split.proofs.Closings.{follows-all, follows-next, follows-none}
use Rattle.cli_split.proofs.closing.close_parts.Goals as goal

pub loop-part-init : goal.loop-part-init
loop-part-init g c =
    let given = c.into_iter-part-iterator.ensures.into_iter_gives.0 in (
      tt,
      tt,
      refl,
      (λ tells. omega (arith, c.requires.room.0)),
      omega (arith, c.requires.room.0, ap length given),
      c.requires.room.1,
      (λ tells failed. failed),
      (λ tells. follows-none g.F.Output.Sink.taken g.F.Output.Sink.name g.F.Output.Sink.failures (g.F.FileStore.failed c.args.files.now) (g.F.FileStore.text c.args.files.now) c.args.parts.items c.args.closed.items
          c.into_iter-part-iterator.result.rest.items c.requires.room.0 given),
    )

pub push_reserved-requires : goal.push_reserved-requires
push_reserved-requires g c = omega (arith, c.loop-part.closed.ok, c.loop-part.invariant.4, c.loop-part.invariant.5, ap length c.in-Some.ensures.steps.0)

pub close_part-requires : goal.close_part-requires
close_part-requires g c κs =
    ((refl, tt), (λ tells. omega (arith, c.loop-part.invariant.3 tells, c.loop-part.invariant.4, c.requires.made tells, ap length c.in-Some.ensures.steps.0)))

pub loop-part-preserved : goal.loop-part-preserved
loop-part-preserved g c =
    let was = c.loop-part.invariant in
    let one = c.close_part.ensures in
    let more = ap length c.push_reserved.ensures.items in
    let pushed = length-append c.loop-part.closed.items (c.close_part.result ∷ []) in (
      tt,
      tt,
      one.places ∙ was.2,
      (λ tells. omega (arith, was.3 tells, one.pending tells, more, pushed)),
      omega (arith, was.4, ap length c.in-Some.ensures.steps.0, more, pushed),
      omega (arith, was.5, c.push_reserved.ensures.capacity),
      (λ tells failed. one.stays tells (was.6 tells failed)),
      (λ tells. follows-next g.F.Output.Sink.taken g.F.Output.Sink.name g.F.Output.Sink.failures (g.F.FileStore.failed c.loop-part.files) (g.F.FileStore.failed c.close_part.new.files)
          (g.F.FileStore.text c.args.files.now) (g.F.FileStore.text c.loop-part.files) (g.F.FileStore.text c.close_part.new.files) c.args.parts.items c.loop-part.closed.items c.push_reserved.new.self.items c.in-Some.part
          c.loop-part.part-iterator.rest.items c.next.new.self.rest.items c.close_part.result (was.7 tells) c.in-Some.ensures.steps.0 c.push_reserved.ensures.items (one.stays tells) (one.closes tells)),
    )

pub returns-clause-pending : goal.returns-clause-pending
returns-clause-pending g c tells =
    omega (arith, c.loop-part.invariant.3 tells, c.loop-part.invariant.4, c.in-None.ensures.steps.0, c.loop-part.part-iterator.rest.ok)

pub returns-clause-closes : goal.returns-clause-closes
returns-clause-closes g c tells =
    follows-all g.F.Output.Sink.taken g.F.Output.Sink.name g.F.Output.Sink.failures (g.F.FileStore.failed c.loop-part.files) (g.F.FileStore.text c.args.files.now) (g.F.FileStore.text c.loop-part.files) c.args.parts.items
    c.loop-part.closed.items c.loop-part.part-iterator.rest.items (c.loop-part.invariant.7 tells) (omega (arith, c.in-None.ensures.steps.0, c.loop-part.part-iterator.rest.ok))
