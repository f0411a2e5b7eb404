use Rattle.std.proofs.Common.{rules, ◌≡◌, ◌∙◌, ◌∷◌, ◌++◌, [], length, ap, subst}
use Rattle.filter_bdd.specs.Diagrams.{IsTable}
use Rattle.filter_bdd.proofs.Tables.{added-gives}
use Rattle.filter_bdd.proofs.table.UniqueTable.add.Goals as goal

pub returns-clause-gives : goal.returns-clause-gives
returns-clause-gives c =
    let s = c.args.self.now in
    let nodes = c.self.inside.nodes.items in
    let same : nodes ≡ s = c.self.view_is ∙ c.reserve.ensures in
    let pushed : c.push-2.new.self.items ≡ nodes ++ c.args.node ∷ [] = search rules in
    let new : c.enlist.new.self ≡ s ++ c.args.node ∷ [] = c.enlist.ensures ∙ pushed ∙ ap (λ l. l ++ c.args.node ∷ []) same in
    let at : c.in-Ok.place ≡ length nodes = search rules in
    added-gives s c.enlist.new.self c.args.node c.in-Ok.place new (subst IsTable same c.self.invariant) c.requires (at ∙ ap length same)
