use Rattle.std.proofs.Common.{sym, subst}
use Rattle.filter_bdd.specs.Calls.{call_answer, IsApplied}
use Rattle.filter_bdd.proofs.Calls.{gives-as, call-on}
use Rattle.filter_bdd.proofs.diagrams.Diagrams.+apply_call.Goals as goal

pub returns-in-Node-clause-gives : goal.returns-in-Node-clause-gives
returns-in-Node-clause-gives t c =
    let s = c.args.self.now in
    let l = c.loop-attempt.self in
    let g = c.apply_within.new.self in
    let call = c.args.call in
    gives-as g (call_answer l call) (call_answer s call) c.in-Node.place (λ v. sym (call-on s l call c.loop-attempt.invariant c.requires v))
    (subst (IsApplied l g call) c.in-Node.is c.in_ok-place.ensures.applied)
