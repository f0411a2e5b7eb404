use Rattle.std.proofs.Common.{sym, cond, subst}
use Rattle.filter_bdd.specs.Diagrams.{answer, Gives}
use Rattle.filter_bdd.specs.Calls.{call_answer}
use Rattle.filter_bdd.proofs.Calls.{map-ok, gives-as, call-of, call-back}
use Rattle.filter_bdd.proofs.diagrams.Diagrams.apply_halves.Goals as goal

pub keep-requires-clause-result : goal.keep-requires-clause-result
keep-requires-clause-result c =
    let s = c.args.self.now in
    let g = c.branch-self.new.self in
    let call = c.args.call in
    call-of s g call c.in_ok-place.place c.branch-self.ensures.grew c.requires.inside
    (gives-as g (λ v. cond (v c.args.bit) (answer s v c.args.one) (answer s v c.args.zero)) (call_answer s call) c.in_ok-place.place
    c.requires.whole c.in_ok-place.ensures.gives)

pub returns-clause-gives : goal.returns-clause-gives
returns-clause-gives c =
    let s = c.args.self.now in
    let g = c.branch-self.new.self in
    let call = c.args.call in
    map-ok c.keep.result
    (λ i h. subst (λ n. Gives n (call_answer s call) i) (sym c.keep.ensures.same) (call-back s g call i c.branch-self.ensures.grew c.requires.inside h))
    c.keep.ensures.gives
