use Rattle.std.proofs.Common.{◌≡◌, List, All, arith, rules, subst}
use Rattle.std.proofs.lemmas.List.{take_all}
use Rattle.pcap_parts.specs.declared.part.PartCut.{PartCut}
use Rattle.pcap_parts.specs.Writing.{HasHeader}
use Rattle.pcap_parts.proofs.Bodies.{more_headers}
use Rattle.pcap_parts.proofs.writing.check_headers.Goals as goal

pub loop-other-preserved : goal.loop-other-preserved
loop-other-preserved g c =
    let text = g.F.PartFiles.text c.args.files.now in
    let same : c.in-Ok.found.items ≡ c.args.header.now = search rules in
    record {
      same = λ known. more_headers text c.args.parts.now c.args.header.now c.in-Ok.found.items c.loop-other.other-index _ c.loop-other-test.true
          (c.loop-other.invariant.same known) same (c.in-Ok.ensures.header known);
      room = omega (arith, c.in-Ok.ensures.room, c.loop-other.invariant.room);
    }

pub returns-clause-same : goal.returns-clause-same
returns-clause-same g c = λ known.
    let text = g.F.PartFiles.text c.args.files.now in
    subst (λ (ps : List PartCut). All (HasHeader text c.args.header.now) ps) (take_all c.loop-other.other-index c.args.parts.now (search rules)) (c.loop-other.invariant.same known)
