use Rattle.filter_diagrams.proofs.Builders.{map-some}
use Rattle.filter_diagrams.proofs.Walks.{node-read}
use Rattle.filter_diagrams.proofs.spots.Spots.known.Goals as goal

pub returns : goal.returns
returns c =
    map-some c.node.result
    (λ i h b insns nodes words. node-read b insns c.args.spot.now c.live.result i c.live.ensures.place c.live.ensures.state words (h b insns nodes))
    c.node.ensures
