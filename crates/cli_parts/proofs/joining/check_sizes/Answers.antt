use Rattle.std.proofs.Common.{List, All, rules, subst}
use Rattle.std.proofs.lemmas.List.{take_all}
use Rattle.pcap_parts.specs.declared.part.PartCut.{PartCut}
use Rattle.cli_parts.specs.Joined.{HasSize}
use Rattle.cli_parts.proofs.Sizes.{more_sizes}
use Rattle.cli_parts.proofs.joining.check_sizes.Goals as goal

pub loop-part-preserved : goal.loop-part-preserved
loop-part-preserved g c = λ known.
    let text = g.F.PartFiles.text c.args.files.now in
    more_sizes text c.args.parts.now c.loop-part.part-index _ c.in-Ok.size c.loop-part-test.true (c.loop-part.invariant known)
    (c.in-Ok.ensures known) (search rules)

pub returns-clause-sizes : goal.returns-clause-sizes
returns-clause-sizes g c = λ known.
    let text = g.F.PartFiles.text c.args.files.now in
    subst (λ (ps : List PartCut). All (HasSize text) ps) (take_all c.loop-part.part-index c.args.parts.now (search rules)) (c.loop-part.invariant known)
