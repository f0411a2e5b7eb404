use Rattle.std.proofs.Common.{◌≡◌, [], ◌∷◌, None, sym, ap, rules}
use Rattle.bpfvm.specs.Codes.{operation_of}
use Rattle.bpfvm.specs.Images.{name_of}
use Rattle.bpfvm.proofs.Soundness.{operation_of-none}
use Rattle.bpfvm.proofs.Images.{name-each}
use Rattle.bpfvm.proofs.image.name_of.Goals as goal

pub returns-in_default : goal.returns-in_default
returns-in_default c =
    let unknown : operation_of c.args.code ≡ None = operation_of-none c.args.code (search rules) in
    sym (ap name_of unknown)

pub returns-in-32 : goal.returns-in-32
unfolding operation_of
returns-in-32 c = name-each _ (0 ∷ 32 ∷ 64 ∷ 96 ∷ 128 ∷ []) c.args.code c.in-32.is (search rules)

pub returns-in-40 : goal.returns-in-40
unfolding operation_of
returns-in-40 c = name-each _ (40 ∷ []) c.args.code c.in-40.is (search rules)

pub returns-in-72 : goal.returns-in-72
unfolding operation_of
returns-in-72 c = name-each _ (72 ∷ []) c.args.code c.in-72.is (search rules)

pub returns-in-48 : goal.returns-in-48
unfolding operation_of
returns-in-48 c = name-each _ (48 ∷ []) c.args.code c.in-48.is (search rules)

pub returns-in-80 : goal.returns-in-80
unfolding operation_of
returns-in-80 c = name-each _ (80 ∷ []) c.args.code c.in-80.is (search rules)

pub returns-in-1 : goal.returns-in-1
unfolding operation_of
returns-in-1 c = name-each _ (1 ∷ 97 ∷ 129 ∷ []) c.args.code c.in-1.is (search rules)

pub returns-in-177 : goal.returns-in-177
unfolding operation_of
returns-in-177 c = name-each _ (177 ∷ []) c.args.code c.in-177.is (search rules)

pub returns-in-2 : goal.returns-in-2
unfolding operation_of
returns-in-2 c = name-each _ (2 ∷ []) c.args.code c.in-2.is (search rules)

pub returns-in-3 : goal.returns-in-3
unfolding operation_of
returns-in-3 c = name-each _ (3 ∷ []) c.args.code c.in-3.is (search rules)

pub returns-in-4 : goal.returns-in-4
unfolding operation_of
returns-in-4 c = name-each _ (4 ∷ 12 ∷ []) c.args.code c.in-4.is (search rules)

pub returns-in-20 : goal.returns-in-20
unfolding operation_of
returns-in-20 c = name-each _ (20 ∷ 28 ∷ []) c.args.code c.in-20.is (search rules)

pub returns-in-36 : goal.returns-in-36
unfolding operation_of
returns-in-36 c = name-each _ (36 ∷ 44 ∷ []) c.args.code c.in-36.is (search rules)

pub returns-in-52 : goal.returns-in-52
unfolding operation_of
returns-in-52 c = name-each _ (52 ∷ 60 ∷ []) c.args.code c.in-52.is (search rules)

pub returns-in-68 : goal.returns-in-68
unfolding operation_of
returns-in-68 c = name-each _ (68 ∷ 76 ∷ []) c.args.code c.in-68.is (search rules)

pub returns-in-84 : goal.returns-in-84
unfolding operation_of
returns-in-84 c = name-each _ (84 ∷ 92 ∷ []) c.args.code c.in-84.is (search rules)

pub returns-in-100 : goal.returns-in-100
unfolding operation_of
returns-in-100 c = name-each _ (100 ∷ 108 ∷ []) c.args.code c.in-100.is (search rules)

pub returns-in-116 : goal.returns-in-116
unfolding operation_of
returns-in-116 c = name-each _ (116 ∷ 124 ∷ []) c.args.code c.in-116.is (search rules)

pub returns-in-148 : goal.returns-in-148
unfolding operation_of
returns-in-148 c = name-each _ (148 ∷ 156 ∷ []) c.args.code c.in-148.is (search rules)

pub returns-in-164 : goal.returns-in-164
unfolding operation_of
returns-in-164 c = name-each _ (164 ∷ 172 ∷ []) c.args.code c.in-164.is (search rules)

pub returns-in-132 : goal.returns-in-132
unfolding operation_of
returns-in-132 c = name-each _ (132 ∷ []) c.args.code c.in-132.is (search rules)

pub returns-in-5 : goal.returns-in-5
unfolding operation_of
returns-in-5 c = name-each _ (5 ∷ []) c.args.code c.in-5.is (search rules)

pub returns-in-21 : goal.returns-in-21
unfolding operation_of
returns-in-21 c = name-each _ (21 ∷ 29 ∷ []) c.args.code c.in-21.is (search rules)

pub returns-in-37 : goal.returns-in-37
unfolding operation_of
returns-in-37 c = name-each _ (37 ∷ 45 ∷ []) c.args.code c.in-37.is (search rules)

pub returns-in-53 : goal.returns-in-53
unfolding operation_of
returns-in-53 c = name-each _ (53 ∷ 61 ∷ []) c.args.code c.in-53.is (search rules)

pub returns-in-69 : goal.returns-in-69
unfolding operation_of
returns-in-69 c = name-each _ (69 ∷ 77 ∷ []) c.args.code c.in-69.is (search rules)

pub returns-in-6 : goal.returns-in-6
unfolding operation_of
returns-in-6 c = name-each _ (6 ∷ 22 ∷ []) c.args.code c.in-6.is (search rules)

pub returns-in-7 : goal.returns-in-7
unfolding operation_of
returns-in-7 c = name-each _ (7 ∷ []) c.args.code c.in-7.is (search rules)

pub returns-in-135 : goal.returns-in-135
unfolding operation_of
returns-in-135 c = name-each _ (135 ∷ []) c.args.code c.in-135.is (search rules)
