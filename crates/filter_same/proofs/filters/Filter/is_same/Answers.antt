use Rattle.std.proofs.Common.{rules, ap, sym, ◌∙◌}
use Rattle.filter_meaning.specs.Meaning.{accepts}
use Rattle.filter_same.specs.Filters.{filter_accepts}
use Rattle.filter_diagrams.specs.Programs.{keeps}
use Rattle.filter_diagrams.proofs.States.{lists-same}
use Rattle.filter_same.proofs.filters.Filter.is_same.Goals as goal

pub returns-in-Expression-Expression : goal.returns-in-Expression-Expression
returns-in-Expression-Expression c = λ yes' p bytes wire.
    let here = c.in-Expression-Expression in
    ap (λ f. filter_accepts f p) here.is-0 ∙ ap (λ t. accepts t p) (c.is_same_expr.ensures yes') ∙ sym (ap (λ f. filter_accepts f p) here.is-1)

pub returns-in-Program-Program : goal.returns-in-Program-Program
returns-in-Program-Program c = λ yes' p bytes wire.
    let here = c.in-Program-Program in
    ap (λ f. filter_accepts f p) here.is-0
    ∙ ap (λ l. keeps l p) (sym c.insns.ensures.value ∙ lists-same _ c.insns.result.now c.insns-in-Program-Program.result.now (sym c.eq.ensures ∙ yes') (λ x y e. search rules) ∙ c.insns-in-Program-Program.ensures.value)
    ∙ sym (ap (λ f. filter_accepts f p) here.is-1)
