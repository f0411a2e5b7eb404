use Rattle.std.proofs.Common.{◌==◌, sym, ap, ◌∙◌, rules, tests, arith}
use Rattle.std.proofs.lemmas.Iterator.Splits.{YieldsList-from_slice_split}
use Rattle.std.proofs.lemmas.Iterator.Consumers.{YieldsList-turn, YieldsList-end}
use Rattle.std.proofs.lemmas.List.{length_push}
use Rattle.std.specs.Slice.Iter.{split_callee}
use Rattle.filterlang.proofs.Octets.{read_more, read_none, read_too_many, read_all}
use Rattle.filterlang.proofs.lexer.numbers.octets.Goals as goal

pub returns-then-count-eq6-clause-none : goal.returns-then-count-eq6-clause-none
returns-then-count-eq6-clause-none c = λ ns e.
    let t = YieldsList-turn (YieldsList-from_slice_split _ (λ b. b == c.args.mark) c.args.run.now (cc) (cc) (ap split_callee c.into_iter-part-iterator.ensures.into_iter_gives ∙ c.split-part-items.ensures.closure) (λ x r q k. search (rules, tests))) c.loop-part.yielded _ c.loop-part.yielded_by _ _ c.in-Some.part c.in-Some.is c.next.ensures.steps in
    read_too_many c.loop-part.invariant ns t.0 c.if-count-eq6.true e

pub returns-in_err-numbers-clause-none : goal.returns-in_err-numbers-clause-none
returns-in_err-numbers-clause-none c =
    let t = YieldsList-turn (YieldsList-from_slice_split _ (λ b. b == c.args.mark) c.args.run.now (cc) (cc) (ap split_callee c.into_iter-part-iterator.ensures.into_iter_gives ∙ c.split-part-items.ensures.closure) (λ x r q k. search (rules, tests))) c.loop-part.yielded _ c.loop-part.yielded_by _ _ c.in-Some.part c.in-Some.is c.next.ensures.steps in
    let none = read_none c.loop-part.invariant c.in-Some.part.now t.0 t.1 (sym c.octet.ensures ∙ c.in_err-numbers.was) in
    rw c.from_residual.ensures (λ ns e. let clash : ⊥ = cc in absurd clash)

pub loop-part-preserved : goal.loop-part-preserved
loop-part-preserved c =
    let t = YieldsList-turn (YieldsList-from_slice_split _ (λ b. b == c.args.mark) c.args.run.now (cc) (cc) (ap split_callee c.into_iter-part-iterator.ensures.into_iter_gives ∙ c.split-part-items.ensures.closure) (λ x r q k. search (rules, tests))) c.loop-part.yielded _ c.loop-part.yielded_by _ _ c.in-Some.part c.in-Some.is c.next.ensures.steps in
    rw (length_push c.loop-part.yielded c.in-Some.part) (read_more c.loop-part.invariant c.in-Some.part.now c.in_ok-numbers.field-0 t.0 t.1 (sym c.octet.ensures ∙ c.in_ok-numbers.was) (omega arith))

pub returns-clause-found : goal.returns-clause-found
returns-clause-found c =
    let t = YieldsList-end (YieldsList-from_slice_split _ (λ b. b == c.args.mark) c.args.run.now (cc) (cc) (ap split_callee c.into_iter-part-iterator.ensures.into_iter_gives ∙ c.split-part-items.ensures.closure) (λ x r q k. search (rules, tests))) c.loop-part.yielded _ c.loop-part.yielded_by _ _ c.in-None.is c.next.ensures.steps in
    read_all c.loop-part.invariant t.1
