use Rattle.filter_diagrams.specs.declared.actions.Operand.TheVariants.{Constant, InIndex}
use Rattle.filter_diagrams.proofs.Builders.{map-ok}
use Rattle.filter_diagrams.proofs.Instructions.{operand-as, operand-constant, operand-index}
use Rattle.filter_diagrams.proofs.builder.Builder.operand.Goals as goal

pub returns-in_ok-constant-in-Constant-clause-operand : goal.returns-in_ok-constant-in-Constant-clause-operand
returns-in_ok-constant-in-Constant-clause-operand c =
    let a = c.args.self.now.symbols.words.diagrams in
    let b = c.constant.new.self.diagrams in
    let s = c.args.state.now in
    let i = c.args.insn.now in
    let w = c.in_ok-constant-in-Constant.field-0 in
    operand-as a b s c.args.operand Constant i w c.in-Constant.is (operand-constant a b s i w c.in_ok-constant-in-Constant.ensures.value)

pub returns-in-InIndex-clause-operand : goal.returns-in-InIndex-clause-operand
returns-in-InIndex-clause-operand c =
    let a = c.args.self.now.symbols.words.diagrams in
    let s = c.args.state.now in
    let i = c.args.insn.now in
    map-ok c.kept.result (λ w is. operand-as a a s c.args.operand InIndex i w c.in-InIndex.is (operand-index a s i w is c.requires)) c.kept.ensures
