use Rattle.std.proofs.Common.{◌∙◌, cond}
use Rattle.filter_bdd.specs.Answers.{ite_answer}
use Rattle.filter_bdd.specs.Diagrams.{answer}
use Rattle.filter_bdd.proofs.Tables.{grown_more, grown-answer}
use Rattle.filter_bdd.proofs.Calls.{map-ok, gives-as, bit-chosen, cond-as}
use Rattle.filter_bdd.proofs.diagrams.Diagrams.by_bit.Goals as goal

pub returns-clause-gives : goal.returns-clause-gives
returns-clause-gives c =
    let s = c.args.self.now in
    let g1 = c.leaf.new.self in
    let g2 = c.leaf-2.new.self in
    let g3 = c.branch-self-2.new.self in
    let no = c.in_ok-no in
    let yes = c.in_ok-yes in
    let holds = c.in_ok-holds in
    let one = c.args.one in
    let zero = c.args.zero in
    let grew = grown_more s g2 g3 (grown_more s g1 g2 no.ensures.grew yes.ensures.grew) holds.ensures.grew in
    map-ok c.ite.result
    (λ i h. gives-as c.ite.new.self
    (λ v. ite_answer (answer g3 v holds.holds) (answer g3 v one) (answer g3 v zero))
    (λ v. cond (v c.args.bit) (answer s v one) (answer s v zero))
    i
    (λ v. bit-chosen (v c.args.bit) (answer g3 v holds.holds) (answer g2 v yes.yes) (answer g2 v no.no) (answer g3 v one) (answer g3 v zero)
    (holds.ensures.gives.says v)
    (yes.ensures.gives.says v)
    (grown-answer v g1 g2 yes.ensures.grew no.no no.ensures.gives.inside ∙ no.ensures.gives.says v)
    ∙ cond-as (v c.args.bit) (answer g3 v one) (answer g3 v zero) (answer s v one) (answer s v zero)
    (grown-answer v s g3 grew one c.requires.one) (grown-answer v s g3 grew zero c.requires.zero))
    h)
    c.ite.ensures.gives
