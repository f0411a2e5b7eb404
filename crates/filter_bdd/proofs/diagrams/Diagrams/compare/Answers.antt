use Rattle.std.proofs.Common.{◌∙◌, ◌%◌, ◌^◌}
use Rattle.filter_bdd.specs.Diagrams.{answer}
use Rattle.filter_bdd.specs.Fields.{number_of, by_order}
use Rattle.filter_bdd.proofs.Tables.{grown_more, grown-answer}
use Rattle.filter_bdd.proofs.Calls.{map-ok, gives-as}
use Rattle.filter_bdd.proofs.Numbers.{order-as}
use Rattle.filter_bdd.proofs.diagrams.Diagrams.compare.Goals as goal

pub returns-clause-gives : goal.returns-clause-gives
returns-clause-gives c =
    let g1 = c.leaf.new.self in
    let g2 = c.leaf-2.new.self in
    let g3 = c.leaf-3.new.self in
    let field = c.args.field in
    let answers = c.args.answers in
    let less = c.in_ok-less in
    let equal = c.in_ok-equal in
    let greater = c.in_ok-greater in
    let number = c.args.number % 2 ^ field.width in
    let grew = grown_more g1 g2 g3 c.leaf-2.ensures.grew c.leaf-3.ensures.grew in
    map-ok c.compare_at.result
    (λ i h. gives-as c.compare_at.new.self
    (λ v. by_order (number_of v field.last field.mask field.width) number (answer g3 v less.less) (answer g3 v equal.equal) (answer g3 v greater.greater))
    (λ v. by_order (number_of v field.last field.mask field.width) number answers.less answers.equal answers.greater)
    i
    (λ v. order-as (number_of v field.last field.mask field.width) number
    (answer g3 v less.less) (answer g3 v equal.equal) (answer g3 v greater.greater) answers.less answers.equal answers.greater
    (grown-answer v g1 g3 grew less.less less.ensures.gives.inside ∙ less.ensures.gives.says v)
    (grown-answer v g2 g3 c.leaf-3.ensures.grew equal.equal equal.ensures.gives.inside ∙ equal.ensures.gives.says v)
    (greater.ensures.gives.says v))
    h)
    c.compare_at.ensures.gives
