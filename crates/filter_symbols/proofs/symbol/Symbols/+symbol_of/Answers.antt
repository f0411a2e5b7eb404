use Rattle.std.proofs.Common.{rules, ◌≡◌, ◌∙◌, ap}
use Rattle.filter_tree.specs.Trees.{amount_of}
use Rattle.filter_tree.specs.Trees as trees
use Rattle.filter_symbols.proofs.Guards.{symbol_extended, amount-minus, amount-binary, amount-accessor}
use Rattle.filter_symbols.proofs.symbol.Symbols.+symbol_of.Goals as goal

pub calculate-requires-clause-second : goal.calculate-requires-clause-second
calculate-requires-clause-second t c =
    symbol_extended c.symbol_of.new.self c.number-in-Negation.new.self c.in_ok-negated-in-Negation.negated
    c.number-in-Negation.ensures.extends c.in_ok-negated-in-Negation.ensures.stands.inside

pub calculate-requires-in-Binary-clause-first : goal.calculate-requires-in-Binary-clause-first
calculate-requires-in-Binary-clause-first t c =
    symbol_extended c.symbol_of-in-Binary.new.self c.symbol_of-in-Binary-2.new.self c.in_ok-first-in-Binary.first
    c.symbol_of-in-Binary-2.ensures.extends c.in_ok-first-in-Binary.ensures.stands.inside

pub returns-in_ok-whole-in-Negation-clause-stands : goal.returns-in_ok-whole-in-Negation-clause-stands
returns-in_ok-whole-in-Negation-clause-stands t c =
    let x = c.deref.result.now in
    let l : c.in-Negation.operand.value ≡ x = search rules in
    amount-minus c.symbol_of.new.self c.number-in-Negation.new.self c.calculate.new.self (amount_of c.args.amount.now) (amount_of x)
    c.in_ok-negated-in-Negation.negated c.in_ok-zero-in-Negation.zero c.in_ok-whole-in-Negation.whole
    (ap amount_of c.in-Negation.is ∙ ap (λ e. trees.minus (amount_of e)) l) c.number-in-Negation.ensures.extends
    c.in_ok-negated-in-Negation.ensures.stands c.in_ok-zero-in-Negation.ensures.stands c.in_ok-whole-in-Negation.ensures.stands

pub returns-in_ok-made-in-Binary-clause-stands : goal.returns-in_ok-made-in-Binary-clause-stands
returns-in_ok-made-in-Binary-clause-stands t c =
    let x = c.deref-in-Binary.result.now in
    let y = c.deref-in-Binary-2.result.now in
    let o = c.in-Binary.operator in
    let l : c.in-Binary.left.value ≡ x = search rules in
    let r : c.in-Binary.right.value ≡ y = search rules in
    amount-binary c.symbol_of-in-Binary.new.self c.symbol_of-in-Binary-2.new.self c.calculate-in-Binary.new.self o (amount_of c.args.amount.now) (amount_of x) (amount_of y)
    c.in_ok-first-in-Binary.first c.in_ok-second-in-Binary.second c.in_ok-made-in-Binary.made
    (ap amount_of c.in-Binary.is ∙ ap (λ e. trees.binary o (amount_of e) (amount_of c.in-Binary.right.value)) l ∙ ap (λ e. trees.binary o (amount_of x) (amount_of e)) r)
    c.symbol_of-in-Binary-2.ensures.extends c.in_ok-first-in-Binary.ensures.stands c.in_ok-second-in-Binary.ensures.stands c.in_ok-made-in-Binary.ensures.stands

pub returns-in_ok-bytes-in-Accessor-clause-stands : goal.returns-in_ok-bytes-in-Accessor-clause-stands
returns-in_ok-bytes-in-Accessor-clause-stands t c =
    let x = c.deref-in-Accessor.result.now in
    let layer = c.in-Accessor.layer in
    let size = c.in-Accessor.size in
    let l : c.in-Accessor.index.value ≡ x = search rules in
    amount-accessor c.symbol_of-in-Accessor.new.self c.access.new.self layer size (amount_of c.args.amount.now) (amount_of x)
    c.in_ok-place-in-Accessor.place c.in_ok-bytes-in-Accessor.bytes
    (ap amount_of c.in-Accessor.is ∙ ap (λ e. trees.accessor layer (amount_of e) size) l)
    c.in_ok-place-in-Accessor.ensures.stands c.in_ok-bytes-in-Accessor.ensures.stands
