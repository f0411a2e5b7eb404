use Rattle.std.proofs.Common.{ap, ◌∙◌, arith}
use Rattle.filter_bdd.specs.Fields.{by_order}
use Rattle.filter_diagrams.proofs.Builders.{map-ok}
use Rattle.filter_diagrams.proofs.Means.{means-wire}
use Rattle.filter_diagrams.proofs.builder.Builder.wire_test.Goals as goal

pub returns-clause-means : goal.returns-clause-means
returns-clause-means c =
    let holds = c.args.holds in
    let answers = c.answers.result in
    let said = c.answers.ensures in
    map-ok c.compare.result
    (λ i h f same. means-wire _ i c.from.result holds.less holds.equal holds.greater
    answers.less answers.equal answers.greater said.less said.equal said.greater (omega (arith, c.from.ensures)) h f
    (λ x. ap (λ n. by_order x n holds.less holds.equal holds.greater) c.from.ensures ∙ same x))
    c.compare.ensures.gives
