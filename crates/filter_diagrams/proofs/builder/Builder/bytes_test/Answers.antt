use Rattle.filter_diagrams.proofs.Builders.{map-ok}
use Rattle.filter_diagrams.proofs.Means.{means-field}
use Rattle.filter_diagrams.proofs.builder.Builder.bytes_test.Goals as goal

pub returns-clause-means : goal.returns-clause-means
returns-clause-means c =
    let bytes = c.args.bytes in
    let holds = c.args.holds in
    let answers = c.answers.result in
    let said = c.answers.ensures in
    map-ok c.compare.result
    (λ i h. means-field _ i bytes.offset bytes.size bytes.mask c.args.number holds.less holds.equal holds.greater
    answers.less answers.equal answers.greater said.less said.equal said.greater c.requires.number h)
    c.compare.ensures.gives

pub returns-clause-inside : goal.returns-clause-inside
returns-clause-inside c = map-ok c.compare.result (λ i h. h.inside) c.compare.ensures.gives
