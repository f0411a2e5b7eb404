use Rattle.std.proofs.Common.{refl}
use Rattle.bpfvm.specs.Codes.{operation_of}
use Rattle.filter_diagrams.specs.declared.actions.Register.TheVariants as registers
use Rattle.filter_diagrams.specs.declared.actions.Operand.TheVariants as operands
use Rattle.filter_diagrams.specs.declared.actions.Test.TheVariants as tests
use Rattle.filter_diagrams.specs.declared.actions.Action.TheVariants.{Store, Jump, Branch, ReturnConstant, ReturnAccumulator}
use Rattle.filter_diagrams.proofs.Codes.{of-code}
use Rattle.filter_diagrams.proofs.actions.control_of.Goals as goal

pub returns-in-2 : goal.returns-in-2
unfolding operation_of
returns-in-2 c = of-code c.args.code 2 (Store registers.Accumulator) c.in-2.is (record { returns = refl; effect = λ packet wire i r. refl })

pub returns-in-3 : goal.returns-in-3
unfolding operation_of
returns-in-3 c = of-code c.args.code 3 (Store registers.Index) c.in-3.is (record { returns = refl; effect = λ packet wire i r. refl })

pub returns-in-5 : goal.returns-in-5
unfolding operation_of
returns-in-5 c = of-code c.args.code 5 (Jump) c.in-5.is (record { returns = refl; effect = λ packet wire i r. refl })

pub returns-in-21 : goal.returns-in-21
unfolding operation_of
returns-in-21 c = of-code c.args.code 21 (Branch tests.Equal operands.Constant) c.in-21.is (record { returns = refl; effect = λ packet wire i r. refl })

pub returns-in-29 : goal.returns-in-29
unfolding operation_of
returns-in-29 c = of-code c.args.code 29 (Branch tests.Equal operands.InIndex) c.in-29.is (record { returns = refl; effect = λ packet wire i r. refl })

pub returns-in-37 : goal.returns-in-37
unfolding operation_of
returns-in-37 c = of-code c.args.code 37 (Branch tests.Greater operands.Constant) c.in-37.is (record { returns = refl; effect = λ packet wire i r. refl })

pub returns-in-45 : goal.returns-in-45
unfolding operation_of
returns-in-45 c = of-code c.args.code 45 (Branch tests.Greater operands.InIndex) c.in-45.is (record { returns = refl; effect = λ packet wire i r. refl })

pub returns-in-53 : goal.returns-in-53
unfolding operation_of
returns-in-53 c = of-code c.args.code 53 (Branch tests.GreaterOrEqual operands.Constant) c.in-53.is (record { returns = refl; effect = λ packet wire i r. refl })

pub returns-in-61 : goal.returns-in-61
unfolding operation_of
returns-in-61 c = of-code c.args.code 61 (Branch tests.GreaterOrEqual operands.InIndex) c.in-61.is (record { returns = refl; effect = λ packet wire i r. refl })

pub returns-in-69 : goal.returns-in-69
unfolding operation_of
returns-in-69 c = of-code c.args.code 69 (Branch tests.AnyBit operands.Constant) c.in-69.is (record { returns = refl; effect = λ packet wire i r. refl })

pub returns-in-77 : goal.returns-in-77
unfolding operation_of
returns-in-77 c = of-code c.args.code 77 (Branch tests.AnyBit operands.InIndex) c.in-77.is (record { returns = refl; effect = λ packet wire i r. refl })

pub returns-in-6 : goal.returns-in-6
unfolding operation_of
returns-in-6 c = of-code c.args.code 6 (ReturnConstant) c.in-6.is (record { returns = refl; effect = λ packet wire i r. refl })

pub returns-in-22 : goal.returns-in-22
unfolding operation_of
returns-in-22 c = of-code c.args.code 22 (ReturnAccumulator) c.in-22.is (record { returns = refl; effect = λ packet wire i r. refl })
