use Rattle.std.proofs.Common.{Some, ap, sym, subst, refl, rules, ◌∙◌}
use Rattle.std.proofs.lemmas.Option.{slice_get-get_or}
use Rattle.filter_diagrams.specs.Walks.{AreNodes}
use Rattle.filter_diagrams.proofs.Walks.{node-found}
use Rattle.filter_diagrams.proofs.spots.Spots.node.Goals as goal

pub returns-then-is : goal.returns-then-is
returns-then-is c = λ b insns h.
    let items = c.self.inside.nodes.items in
    let place = c.in_ok-place.place in
    let found = c.index.result.now in
    node-found b insns items place found _ c.args.spot.now _ (subst (AreNodes b insns) (sym c.self.view_is) h)
    (slice_get-get_or items place found (search rules) ∙ ap Some (sym c.index.ensures)) refl refl (c.is.ensures c.if-is.true)
