use Rattle.std.proofs.Common.{refl}
use Rattle.bpfvm.specs.Codes.{operation_of}
use Rattle.filter_tree.specs.declared.tree.Size.TheVariants as sizes
use Rattle.filter_diagrams.specs.declared.actions.Register.TheVariants as registers
use Rattle.filter_diagrams.specs.declared.actions.LoadSource.TheVariants as sources
use Rattle.filter_diagrams.specs.declared.actions.Action.TheVariants.{Load}
use Rattle.filter_diagrams.proofs.Codes.{of-code}
use Rattle.filter_diagrams.proofs.actions.load_of.Goals as goal

pub returns-in-32 : goal.returns-in-32
unfolding operation_of
returns-in-32 c = of-code c.args.code 32 (Load registers.Accumulator (sources.Absolute sizes.Four)) c.in-32.is (record { returns = refl; effect = λ packet wire i r. refl })

pub returns-in-40 : goal.returns-in-40
unfolding operation_of
returns-in-40 c = of-code c.args.code 40 (Load registers.Accumulator (sources.Absolute sizes.Two)) c.in-40.is (record { returns = refl; effect = λ packet wire i r. refl })

pub returns-in-48 : goal.returns-in-48
unfolding operation_of
returns-in-48 c = of-code c.args.code 48 (Load registers.Accumulator (sources.Absolute sizes.One)) c.in-48.is (record { returns = refl; effect = λ packet wire i r. refl })

pub returns-in-64 : goal.returns-in-64
unfolding operation_of
returns-in-64 c = of-code c.args.code 64 (Load registers.Accumulator (sources.Indirect sizes.Four)) c.in-64.is (record { returns = refl; effect = λ packet wire i r. refl })

pub returns-in-72 : goal.returns-in-72
unfolding operation_of
returns-in-72 c = of-code c.args.code 72 (Load registers.Accumulator (sources.Indirect sizes.Two)) c.in-72.is (record { returns = refl; effect = λ packet wire i r. refl })

pub returns-in-80 : goal.returns-in-80
unfolding operation_of
returns-in-80 c = of-code c.args.code 80 (Load registers.Accumulator (sources.Indirect sizes.One)) c.in-80.is (record { returns = refl; effect = λ packet wire i r. refl })

pub returns-in-0 : goal.returns-in-0
unfolding operation_of
returns-in-0 c = of-code c.args.code 0 (Load registers.Accumulator sources.Immediate) c.in-0.is (record { returns = refl; effect = λ packet wire i r. refl })

pub returns-in-1 : goal.returns-in-1
unfolding operation_of
returns-in-1 c = of-code c.args.code 1 (Load registers.Index sources.Immediate) c.in-1.is (record { returns = refl; effect = λ packet wire i r. refl })

pub returns-in-96 : goal.returns-in-96
unfolding operation_of
returns-in-96 c = of-code c.args.code 96 (Load registers.Accumulator sources.Memory) c.in-96.is (record { returns = refl; effect = λ packet wire i r. refl })

pub returns-in-97 : goal.returns-in-97
unfolding operation_of
returns-in-97 c = of-code c.args.code 97 (Load registers.Index sources.Memory) c.in-97.is (record { returns = refl; effect = λ packet wire i r. refl })

pub returns-in-128 : goal.returns-in-128
unfolding operation_of
returns-in-128 c = of-code c.args.code 128 (Load registers.Accumulator sources.Length) c.in-128.is (record { returns = refl; effect = λ packet wire i r. refl })

pub returns-in-129 : goal.returns-in-129
unfolding operation_of
returns-in-129 c = of-code c.args.code 129 (Load registers.Index sources.Length) c.in-129.is (record { returns = refl; effect = λ packet wire i r. refl })

pub returns-in-177 : goal.returns-in-177
unfolding operation_of
returns-in-177 c = of-code c.args.code 177 (Load registers.Index sources.HeaderLength) c.in-177.is (record { returns = refl; effect = λ packet wire i r. refl })

pub returns-in-7 : goal.returns-in-7
unfolding operation_of
returns-in-7 c = of-code c.args.code 7 (Load registers.Index (sources.Register registers.Accumulator)) c.in-7.is (record { returns = refl; effect = λ packet wire i r. refl })

pub returns-in-135 : goal.returns-in-135
unfolding operation_of
returns-in-135 c = of-code c.args.code 135 (Load registers.Accumulator (sources.Register registers.Index)) c.in-135.is (record { returns = refl; effect = λ packet wire i r. refl })

pub returns-in-132 : goal.returns-in-132
unfolding operation_of
returns-in-132 c = of-code c.args.code 132 (Load registers.Accumulator sources.Negated) c.in-132.is (record { returns = refl; effect = λ packet wire i r. refl })
