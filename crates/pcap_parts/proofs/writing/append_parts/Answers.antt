use Rattle.std.proofs.Common.{◌∙◌, arith, refl}
use Rattle.pcap_parts.proofs.Bodies.{more_bodies, no_bodies}
use Rattle.pcap_parts.proofs.writing.append_parts.Goals as goal

pub loop-part-init : goal.loop-part-init
loop-part-init g c = record {
  took = λ known. no_bodies (g.F.PartFiles.text c.args.files.now) (g.W.Sink.taken c.args.to.now);
  room = c.requires.room;
  named = refl;
}

pub loop-part-preserved : goal.loop-part-preserved
loop-part-preserved g c = record {
  took = λ known. more_bodies (g.F.PartFiles.text c.args.files.now) c.args.parts.now (g.W.Sink.taken c.args.to.now) _ _ c.loop-part.part-index _ c.loop-part-test.true
      (c.loop-part.invariant.took known) (c.in_default.ensures.took known);
  room = omega (arith, c.in_default.ensures.room, c.loop-part.invariant.room);
  named = c.in_default.ensures.named ∙ c.loop-part.invariant.named;
}
