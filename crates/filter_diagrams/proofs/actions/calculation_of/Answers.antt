use Rattle.std.proofs.Common.{refl}
use Rattle.bpfvm.specs.Codes.{operation_of}
use Rattle.filter_tree.specs.declared.tree.Operator.TheVariants as operators
use Rattle.filter_diagrams.specs.declared.actions.Register.TheVariants as registers
use Rattle.filter_diagrams.specs.declared.actions.Operand.TheVariants as operands
use Rattle.filter_diagrams.specs.declared.actions.LoadSource.TheVariants as sources
use Rattle.filter_diagrams.specs.declared.actions.Action.TheVariants.{Load}
use Rattle.filter_diagrams.proofs.Codes.{of-code}
use Rattle.filter_diagrams.proofs.actions.calculation_of.Goals as goal

pub returns-in-4 : goal.returns-in-4
unfolding operation_of
returns-in-4 c = of-code c.args.code 4 (Load registers.Accumulator (sources.Calculated operators.Plus operands.Constant)) c.in-4.is (record { returns = refl; effect = λ packet wire i r. refl })

pub returns-in-12 : goal.returns-in-12
unfolding operation_of
returns-in-12 c = of-code c.args.code 12 (Load registers.Accumulator (sources.Calculated operators.Plus operands.InIndex)) c.in-12.is (record { returns = refl; effect = λ packet wire i r. refl })

pub returns-in-20 : goal.returns-in-20
unfolding operation_of
returns-in-20 c = of-code c.args.code 20 (Load registers.Accumulator (sources.Calculated operators.Minus operands.Constant)) c.in-20.is (record { returns = refl; effect = λ packet wire i r. refl })

pub returns-in-28 : goal.returns-in-28
unfolding operation_of
returns-in-28 c = of-code c.args.code 28 (Load registers.Accumulator (sources.Calculated operators.Minus operands.InIndex)) c.in-28.is (record { returns = refl; effect = λ packet wire i r. refl })

pub returns-in-36 : goal.returns-in-36
unfolding operation_of
returns-in-36 c = of-code c.args.code 36 (Load registers.Accumulator (sources.Calculated operators.Times operands.Constant)) c.in-36.is (record { returns = refl; effect = λ packet wire i r. refl })

pub returns-in-44 : goal.returns-in-44
unfolding operation_of
returns-in-44 c = of-code c.args.code 44 (Load registers.Accumulator (sources.Calculated operators.Times operands.InIndex)) c.in-44.is (record { returns = refl; effect = λ packet wire i r. refl })

pub returns-in-52 : goal.returns-in-52
unfolding operation_of
returns-in-52 c = of-code c.args.code 52 (Load registers.Accumulator (sources.Calculated operators.Divide operands.Constant)) c.in-52.is (record { returns = refl; effect = λ packet wire i r. refl })

pub returns-in-60 : goal.returns-in-60
unfolding operation_of
returns-in-60 c = of-code c.args.code 60 (Load registers.Accumulator (sources.Calculated operators.Divide operands.InIndex)) c.in-60.is (record { returns = refl; effect = λ packet wire i r. refl })

pub returns-in-68 : goal.returns-in-68
unfolding operation_of
returns-in-68 c = of-code c.args.code 68 (Load registers.Accumulator (sources.Calculated operators.BitOr operands.Constant)) c.in-68.is (record { returns = refl; effect = λ packet wire i r. refl })

pub returns-in-76 : goal.returns-in-76
unfolding operation_of
returns-in-76 c = of-code c.args.code 76 (Load registers.Accumulator (sources.Calculated operators.BitOr operands.InIndex)) c.in-76.is (record { returns = refl; effect = λ packet wire i r. refl })

pub returns-in-84 : goal.returns-in-84
unfolding operation_of
returns-in-84 c = of-code c.args.code 84 (Load registers.Accumulator (sources.Calculated operators.BitAnd operands.Constant)) c.in-84.is (record { returns = refl; effect = λ packet wire i r. refl })

pub returns-in-92 : goal.returns-in-92
unfolding operation_of
returns-in-92 c = of-code c.args.code 92 (Load registers.Accumulator (sources.Calculated operators.BitAnd operands.InIndex)) c.in-92.is (record { returns = refl; effect = λ packet wire i r. refl })

pub returns-in-100 : goal.returns-in-100
unfolding operation_of
returns-in-100 c = of-code c.args.code 100 (Load registers.Accumulator (sources.Calculated operators.ShiftLeft operands.Constant)) c.in-100.is (record { returns = refl; effect = λ packet wire i r. refl })

pub returns-in-108 : goal.returns-in-108
unfolding operation_of
returns-in-108 c = of-code c.args.code 108 (Load registers.Accumulator (sources.Calculated operators.ShiftLeft operands.InIndex)) c.in-108.is (record { returns = refl; effect = λ packet wire i r. refl })

pub returns-in-116 : goal.returns-in-116
unfolding operation_of
returns-in-116 c = of-code c.args.code 116 (Load registers.Accumulator (sources.Calculated operators.ShiftRight operands.Constant)) c.in-116.is (record { returns = refl; effect = λ packet wire i r. refl })

pub returns-in-124 : goal.returns-in-124
unfolding operation_of
returns-in-124 c = of-code c.args.code 124 (Load registers.Accumulator (sources.Calculated operators.ShiftRight operands.InIndex)) c.in-124.is (record { returns = refl; effect = λ packet wire i r. refl })

pub returns-in-148 : goal.returns-in-148
unfolding operation_of
returns-in-148 c = of-code c.args.code 148 (Load registers.Accumulator (sources.Calculated operators.Modulo operands.Constant)) c.in-148.is (record { returns = refl; effect = λ packet wire i r. refl })

pub returns-in-156 : goal.returns-in-156
unfolding operation_of
returns-in-156 c = of-code c.args.code 156 (Load registers.Accumulator (sources.Calculated operators.Modulo operands.InIndex)) c.in-156.is (record { returns = refl; effect = λ packet wire i r. refl })

pub returns-in-164 : goal.returns-in-164
unfolding operation_of
returns-in-164 c = of-code c.args.code 164 (Load registers.Accumulator (sources.Calculated operators.BitXor operands.Constant)) c.in-164.is (record { returns = refl; effect = λ packet wire i r. refl })

pub returns-in-172 : goal.returns-in-172
unfolding operation_of
returns-in-172 c = of-code c.args.code 172 (Load registers.Accumulator (sources.Calculated operators.BitXor operands.InIndex)) c.in-172.is (record { returns = refl; effect = λ packet wire i r. refl })
