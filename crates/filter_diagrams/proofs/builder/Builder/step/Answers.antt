use Rattle.std.proofs.Common.{sym, ◌∙◌}
use Rattle.filter_diagrams.specs.declared.actions.Action.TheVariants.{Load, Store, Jump, Branch, ReturnConstant, ReturnAccumulator}
use Rattle.filter_diagrams.proofs.Instructions.{words_extended, step-as, load-step, store-step, jump-step, branch-step, constant-step, accumulator-step}
use Rattle.filter_diagrams.proofs.builder.Builder.step.Goals as goal

pub returns-in_ok-number-in-Load-clause-step : goal.returns-in_ok-number-in-Load-clause-step
returns-in_ok-number-in-Load-clause-step c =
    let x = c.args.self.now.symbols in
    let y = c.load_of.new.self.symbols in
    let state = c.args.state.now in
    let i = c.args.insn.now in
    let to = c.in-Load.to in
    let source = c.in-Load.source in
    step-as x y state i c.args.action (Load to source) _ c.in-Load.is
    (load-step x y state c.with_register.result to source i c.in_ok-number-in-Load.number c.load_of.ensures.extends c.requires c.in_ok-number-in-Load.ensures.load c.with_register.ensures)

pub returns-in_ok-go_on-in-Store-clause-step : goal.returns-in_ok-go_on-in-Store-clause-step
returns-in_ok-go_on-in-Store-clause-step c =
    let x = c.args.self.now.symbols in
    let y = c.go_on.new.self.symbols in
    let state = c.args.state.now in
    let i = c.args.insn.now in
    let from = c.in-Store.from in
    step-as x y state i c.args.action (Store from) _ c.in-Store.is
    (store-step x y state c.in_ok-stored-in-Store.stored from c.in_ok-kept-in-Store.field-0 i c.in_ok-go_on-in-Store.field-0 c.go_on.ensures.extends c.requires
    (sym c.register.ensures ∙ c.in_ok-kept-in-Store.ensures) c.in_ok-stored-in-Store.ensures c.in_ok-go_on-in-Store.ensures.on)

pub returns-in_ok-go_on-in-Jump-clause-step : goal.returns-in_ok-go_on-in-Jump-clause-step
returns-in_ok-go_on-in-Jump-clause-step c =
    let x = c.args.self.now.symbols in
    let y = c.go_on-in-Jump.new.self.symbols in
    let state = c.args.state.now in
    let i = c.args.insn.now in
    step-as x y state i c.args.action Jump _ c.in-Jump.is
    (jump-step x y state i c.in_ok-go_on-in-Jump.field-0 c.go_on-in-Jump.ensures.extends c.requires c.in_ok-go_on-in-Jump.ensures.on)

pub returns-in_ok-branch-in-Branch-clause-step : goal.returns-in_ok-branch-in-Branch-clause-step
returns-in_ok-branch-in-Branch-clause-step c =
    let w = c.args.self.now.symbols in
    let x = c.operand.new.self.symbols in
    let y = c.test.new.self.symbols in
    let z = c.branch-self.new.self.symbols in
    let state = c.args.state.now in
    let i = c.args.insn.now in
    step-as w z state i c.args.action (Branch c.in-Branch.test c.in-Branch.operand) _ c.in-Branch.is
    (branch-step w x y z state c.in-Branch.test c.in-Branch.operand i c.in_ok-first-in-Branch.first c.in_ok-second-in-Branch.second c.in_ok-holds-in-Branch.holds c.in_ok-branch-in-Branch.field-0
    c.operand.ensures.extends c.test.ensures.extends c.requires c.in_ok-first-in-Branch.ensures c.in_ok-second-in-Branch.ensures.operand
    c.in_ok-holds-in-Branch.ensures.says c.in_ok-branch-in-Branch.ensures.jump)

pub returns-in_ok-end-in-ReturnConstant-clause-step : goal.returns-in_ok-end-in-ReturnConstant-clause-step
returns-in_ok-end-in-ReturnConstant-clause-step c =
    let x = c.args.self.now.symbols in
    let y = c.leaf.new.self.symbols in
    let state = c.args.state.now in
    let i = c.args.insn.now in
    step-as x y state i c.args.action ReturnConstant _ c.in-ReturnConstant.is
    (constant-step x y state i c.in_ok-end-in-ReturnConstant.end c.in_ok-end-in-ReturnConstant.ensures.gives)

pub returns-in_ok-end-in-ReturnAccumulator-clause-step : goal.returns-in_ok-end-in-ReturnAccumulator-clause-step
returns-in_ok-end-in-ReturnAccumulator-clause-step c =
    let x = c.args.self.now.symbols in
    let y = c.is_some.new.self.symbols in
    let state = c.args.state.now in
    let i = c.args.insn.now in
    step-as x y state i c.args.action ReturnAccumulator _ c.in-ReturnAccumulator.is
    (accumulator-step x y state i c.in_ok-kept-in-ReturnAccumulator.field-0 c.in_ok-end-in-ReturnAccumulator.end c.in_ok-kept-in-ReturnAccumulator.ensures c.in_ok-end-in-ReturnAccumulator.ensures.says)

pub branch-self-requires-clause-state : goal.branch-self-requires-clause-state
branch-self-requires-clause-state c =
    let w = c.args.self.now.symbols in
    let x = c.operand.new.self.symbols in
    let y = c.test.new.self.symbols in
    words_extended x y c.args.state.now c.test.ensures.extends (words_extended w x c.args.state.now c.operand.ensures.extends c.requires)
