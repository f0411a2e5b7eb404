use Rattle.filter_diagrams.proofs.Builders.{map-ok}
use Rattle.filter_diagrams.proofs.Instructions.{jump-yes, jump-no, jump-either}
use Rattle.filter_diagrams.proofs.builder.Builder.branch.Goals as goal

pub returns-then-is-clause-jump : goal.returns-then-is-clause-jump
returns-then-is-clause-jump c =
    map-ok c.go_on.result
    (λ s on. jump-yes c.args.self.now.symbols c.go_on.new.self.symbols c.args.state.now c.args.insn.now c.args.test c.from.result s
    c.go_on.ensures.extends c.requires.state (c.is.ensures c.if-is.true) c.from.ensures on)
    c.go_on.ensures.on

pub returns-then-is-2-clause-jump : goal.returns-then-is-2-clause-jump
returns-then-is-2-clause-jump c =
    map-ok c.go_on-then-is-2.result
    (λ s on. jump-no c.args.self.now.symbols c.go_on-then-is-2.new.self.symbols c.args.state.now c.args.insn.now c.args.test c.from-then-is-2.result s
    c.go_on-then-is-2.ensures.extends c.requires.state (c.is-2.ensures c.if-is-2.true) c.from-then-is-2.ensures on)
    c.go_on-then-is-2.ensures.on

pub returns-clause-jump : goal.returns-clause-jump
returns-clause-jump c = jump-either c.args.self.now.symbols.words.diagrams c.args.state.now c.args.insn.now c.args.test c.requires.test
