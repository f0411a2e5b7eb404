use Rattle.std.proofs.Common.{◌≡◌, ◌<◌, length, sym, ◌∙◌, subst}
use Rattle.filter_bdd.specs.declared.answer.Answer.TheVariants.{Never}
use Rattle.filter_bdd.specs.declared.table.Node.TheVariants.{Leaf}
use Rattle.filter_bdd.specs.Diagrams.{answer, node_answer}
use Rattle.std.proofs.lemmas.List.{get_or_default}
use Rattle.filter_bdd.proofs.Tables.{answer-is}
use Rattle.filter_bdd.proofs.table.UniqueTable.node.Goals as goal

pub returns-clause-says : goal.returns-clause-says
returns-clause-says c v =
    let nodes = c.self.inside.nodes.items in
    let found = c.index.result.now in
    let inside = subst (λ n. c.args.place < length n) (sym c.self.view_is) c.requires in
    subst (λ n. answer n v c.args.place ≡ node_answer n found v) c.self.view_is
    (answer-is v nodes c.args.place found c.self.invariant inside (get_or_default nodes c.args.place (Leaf Never) found inside ∙ sym c.index.ensures))
