-- Why one listener is refused.
use Rattle.std.proofs.Common.{◌≡◌, ◌≢◌, ◌↔◌, ℕ, ◌<◌, ◌≤◌, ◌⊎◌, inl, inr, List, length, string_bytes, refl, sym, ap, ◌∙◌, arith, subst}
use Rattle.std.specs.Prelude.{String, Result, Err}
use Rattle.std.specs.declared.alloc.Global.{Global}
use Rattle.filterlang.specs.declared.fault.Fault.{Fault as Misread}
use Rattle.filterlang.specs.declared.fault.Fault.TheVariants as misread
use Rattle.filterlang.specs.Trees.{Tree}
use Rattle.filterlang.specs.Texts.{ReadsAs, IsRefusalOf}
use Rattle.filtergen_facts.specs.declared.refusal.Refusal.{Refusal}
use Rattle.filtergen_facts.specs.declared.refusal.Refusal.TheVariants.{TooLong, TooDeep, BadSnap, NoMemory}
use Rattle.filtergen_facts.specs.Weights.{need, weight}
use Rattle.filtergen_code.specs.Compiling.{IsBadSnap}
use Rattle.tap.specs.declared.fault.Fault.{Fault}
use Rattle.tap.specs.declared.fault.Fault.TheVariants.{Expression, Compile}
use Rattle.tap.specs.declared.fault.Fault.TheVariants as faults
use Rattle.tap_steps.specs.declared.filters.Filter.TheVariants.{Text}
use Rattle.tap.specs.Refusals.{IsExpression, RefusesFilter}

-- a text that is no expression
refuses_text : (l snap : ℕ) (text : String Global) (fault : Misread) → fault ≢ misread.NoMemory → IsRefusalOf (string_bytes text) fault →
    RefusesFilter l (Text text) snap (Expression l fault)
refuses_text l snap text misread.NoMemory some why = absurd (some refl)
refuses_text l snap text other some why = (refl, why)

-- the same, with a case of its own if memory ran out
pub misread_refuses : (l snap : ℕ) (text : String Global) (fault : Misread) (f : Fault) → IsRefusalOf (string_bytes text) fault →
    (f ≡ faults.NoMemory) ⊎ ((fault ≢ misread.NoMemory) × (f ≡ Expression l fault)) → (f ≡ faults.NoMemory) ⊎ RefusesFilter l (Text text) snap f
misread_refuses l snap text fault f why (inl none) = inl none
misread_refuses l snap text fault f why (inr (some, is)) = inr (subst (RefusesFilter l (Text text) snap) (sym is) (refuses_text l snap text fault some why))

-- where an expression is not too deep at a snapshot length that can be compiled, it needs no more than the scratch memory
pub not_deep : {A : Type 0} (snap n : ℕ) (r : Result A Refusal) → (IsBadSnap snap → ⊥) → (r ≡ Err TooDeep → ⊥) →
    ((r ≡ Err TooDeep) ↔ ((0 < snap) × (snap ≤ 262144) × (16 < n))) → n ≤ 16
not_deep snap n r good not deep =
    let some : snap ≡ 0 → ⊥ = λ z. good (inl z) in
    let most : 262144 < snap → ⊥ = λ z. good (inr z) in
    let least : 0 < snap = omega (arith, some) in
    let within : snap ≤ 262144 = omega (arith, most) in
    let shallow : 16 < n → ⊥ = λ h. not (deep.1 (least, within, h)) in
    omega (arith, shallow)

-- an expression that isn't compiled
pub refuses_compile : {A : Type 0} (l snap : ℕ) (text : String Global) (expression : IsExpression (string_bytes text)) (r : Result A Refusal) (refusal : Refusal) → r ≡ Err refusal →
    ((r ≡ Err BadSnap) ↔ IsBadSnap snap) → ((r ≡ Err TooDeep) ↔ ((0 < snap) × (snap ≤ 262144) × (16 < need expression.tree))) →
    (r ≡ Err TooLong → 500 < weight expression.tree) → r ≢ Err NoMemory → RefusesFilter l (Text text) snap (Compile l refusal)
refuses_compile l snap text expression r BadSnap is bad deep long memory = (refl, expression, bad.0 is)
refuses_compile l snap text expression r TooDeep is bad deep long memory =
    (refl, (λ h. let e = sym is ∙ bad.1 h in absurd (cc)), expression, (deep.0 is).2)
refuses_compile l snap text expression r TooLong is bad deep long memory =
    let good : IsBadSnap snap → ⊥ = λ h. let e = sym is ∙ bad.1 h in absurd (cc) in
    let shallow = not_deep snap (need expression.tree) r good (λ d. let e = sym is ∙ d in absurd (cc)) deep in
    (refl, good, expression, shallow, long is)
refuses_compile l snap text expression r NoMemory is bad deep long memory = absurd (memory is)

-- a text that is read
abbrev pub is_expression : (text : String Global) (bytes : List ℕ) (tree : Tree) → bytes ≡ string_bytes text → (8192 < length bytes → ⊥) → ReadsAs bytes tree → IsExpression (string_bytes text)
is_expression text bytes tree is short reads = record { short = omega (arith, short, ap length is); tree = tree; reads = subst (λ t. ReadsAs t tree) is reads }
