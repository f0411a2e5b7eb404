use Rattle.filter_diagrams.proofs.States.{words_grown}
use Rattle.filter_diagrams.proofs.Walks.{spots_grown, spots-pushed, spots-rest, spots-next}
use Rattle.filter_diagrams.proofs.builder.Builder.next_spot.Goals as goal

pub returns-in-Ok-clause-waiting : goal.returns-in-Ok-clause-waiting
returns-in-Ok-clause-waiting c =
    let g = c.args.self.now.symbols in
    let h = c.visit.new.self.symbols in
    let old = c.args.waiting.now.items in
    spots-pushed h old c.push.new.self.items c.args.spot c.in-Ok.ensures.items (spots_grown g h old c.visit.ensures.extends c.requires.waiting)
    (words_grown g.words.diagrams h.words.diagrams c.args.spot.state c.visit.ensures.extends.grew c.requires.words)

pub returns-in-Node-clause-waiting : goal.returns-in-Node-clause-waiting
returns-in-Node-clause-waiting c =
    let g = c.args.self.now.symbols in
    let h = c.visit.new.self.symbols in
    let old = c.args.waiting.now.items in
    spots-rest h old c.pop.new.self.items _ c.pop.ensures.items (spots_grown g h old c.visit.ensures.extends c.requires.waiting)

pub returns-in-Node-clause-next : goal.returns-in-Node-clause-next
returns-in-Node-clause-next c =
    let g = c.args.self.now.symbols in
    let h = c.visit.new.self.symbols in
    let old = c.args.waiting.now.items in
    spots-next h old c.pop.new.self.items c.pop.result c.pop.ensures.items (spots_grown g h old c.visit.ensures.extends c.requires.waiting)
