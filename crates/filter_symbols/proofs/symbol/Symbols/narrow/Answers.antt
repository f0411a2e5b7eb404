use Rattle.std.proofs.Common.{subst, sym}
use Rattle.filter_bdd.proofs.Calls.{map-ok}
use Rattle.filter_words.proofs.Nodes.{is_bit_grown}
use Rattle.filter_symbols.specs.Steps.{IsNarrowed}
use Rattle.filter_symbols.proofs.Accesses.{narrowed-one, narrowed-zero}
use Rattle.filter_symbols.proofs.symbol.Symbols.narrow.Goals as goal

pub choice-requires-clause-test : goal.choice-requires-clause-test
choice-requires-clause-test c = is_bit_grown c.args.self.now.words.diagrams c.fixed.new.self.diagrams c.args.node c.fixed.ensures.grew c.requires.node

pub choice-requires-clause-yes : goal.choice-requires-clause-yes
choice-requires-clause-yes c = is_bit_grown c.args.self.now.words.diagrams c.fixed.new.self.diagrams c.args.condition c.fixed.ensures.grew c.requires.condition

pub choice-requires-else-one-clause-test : goal.choice-requires-else-one-clause-test
choice-requires-else-one-clause-test c = is_bit_grown c.args.self.now.words.diagrams c.fixed.new.self.diagrams c.args.node c.fixed.ensures.grew c.requires.node

pub choice-requires-else-one-clause-no : goal.choice-requires-else-one-clause-no
choice-requires-else-one-clause-no c = is_bit_grown c.args.self.now.words.diagrams c.fixed.new.self.diagrams c.args.condition c.fixed.ensures.grew c.requires.condition

pub returns-then-one-clause-narrowed : goal.returns-then-one-clause-narrowed
returns-then-one-clause-narrowed c =
    let a = c.args.self.now.words.diagrams in
    let d = c.choice.new.self.diagrams in
    map-ok c.choice.result
    (λ i h. subst (λ b. IsNarrowed a d c.args.condition c.args.node b i) (sym c.if-one.true)
    (narrowed-one a c.fixed.new.self.diagrams d c.args.condition c.args.node c.in_ok-no.no i c.fixed.ensures.grew c.requires.condition c.requires.node c.in_ok-no.ensures.says h))
    c.choice.ensures.says

pub returns-else-one-clause-narrowed : goal.returns-else-one-clause-narrowed
returns-else-one-clause-narrowed c =
    let a = c.args.self.now.words.diagrams in
    let d = c.choice-else-one.new.self.diagrams in
    map-ok c.choice-else-one.result
    (λ i h. subst (λ b. IsNarrowed a d c.args.condition c.args.node b i) (sym c.if-one.false)
    (narrowed-zero a c.fixed.new.self.diagrams d c.args.condition c.args.node c.in_ok-no.no i c.fixed.ensures.grew c.requires.condition c.requires.node c.in_ok-no.ensures.says h))
    c.choice-else-one.ensures.says
