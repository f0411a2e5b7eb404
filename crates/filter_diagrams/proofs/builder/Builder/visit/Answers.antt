use Rattle.std.proofs.Common.{◌<◌, sym, subst}
use Rattle.filter_diagrams.specs.Walks.{IsNodeOf, IsVisited}
use Rattle.filter_diagrams.proofs.Builders.{extends_more, header_extended}
use Rattle.filter_diagrams.proofs.States.{words_grown, part-words}
use Rattle.filter_diagrams.proofs.Walks.{nodes_grown, node-read}
use Rattle.filter_diagrams.proofs.builder.Builder.visit.Goals as goal

pub node_of-requires-clause-header : goal.node_of-requires-clause-header
node_of-requires-clause-header c = header_extended (λ n. n < 16) c.args.self.now.symbols c.count_visit.new.self.symbols c.count_visit.ensures c.requires.header

pub node_of-requires-clause-words : goal.node_of-requires-clause-words
node_of-requires-clause-words c =
    let g = c.args.self.now.symbols.words.diagrams in
    let m = c.count_visit.new.self.symbols.words.diagrams in
    part-words m c.args.spot.now.state c.live-here.result.state c.live-here.ensures.state (words_grown g m c.args.spot.now.state c.count_visit.ensures.grew c.requires.words)

pub node_of-requires-clause-spots : goal.node_of-requires-clause-spots
node_of-requires-clause-spots c = nodes_grown c.args.self.now.symbols c.count_visit.new.self.symbols c.args.insns.now c.args.spots.now c.count_visit.ensures c.requires.spots

pub returns-in_ok-keep-in-Node-clause-node : goal.returns-in_ok-keep-in-Node-clause-node
returns-in_ok-keep-in-Node-clause-node c =
    let g = c.args.self.now.symbols in
    let m = c.count_visit.new.self.symbols in
    let h = c.node_of.new.self.symbols in
    let insns = c.args.insns.now in
    let here = c.live-here.result in
    let grew = extends_more g m h c.count_visit.ensures c.node_of.ensures.extends in
    let made = subst (IsVisited h insns here) c.in-Node.is c.in_ok-node.ensures.node in
    node-read h insns c.args.spot.now here c.in_ok-keep-in-Node.field-0 c.live-here.ensures.place c.live-here.ensures.state
    (words_grown g.words.diagrams h.words.diagrams c.args.spot.now.state grew.grew c.requires.words)
    (subst (IsNodeOf h insns here) (sym c.in_ok-keep-in-Node.ensures.node) made)

pub returns-in_ok-keep-in-Node-clause-spots : goal.returns-in_ok-keep-in-Node-clause-spots
returns-in_ok-keep-in-Node-clause-spots c =
    let g = c.args.self.now.symbols in
    let m = c.count_visit.new.self.symbols in
    let h = c.node_of.new.self.symbols in
    let insns = c.args.insns.now in
    c.in_ok-keep-in-Node.ensures.kept h insns
    (nodes_grown g h insns c.args.spots.now (extends_more g m h c.count_visit.ensures c.node_of.ensures.extends) c.requires.spots)
    (subst (IsVisited h insns c.live-here.result) c.in-Node.is c.in_ok-node.ensures.node)

pub returns-in-First-clause-spots : goal.returns-in-First-clause-spots
returns-in-First-clause-spots c =
    let g = c.args.self.now.symbols in
    let m = c.count_visit.new.self.symbols in
    let h = c.node_of.new.self.symbols in
    nodes_grown g h c.args.insns.now c.args.spots.now (extends_more g m h c.count_visit.ensures c.node_of.ensures.extends) c.requires.spots
