use Rattle.std.proofs.Common.{◌≡◌, [], ◌∷◌, Option, None, sym, ap, rules}
use Rattle.bpfvm.specs.Codes.{Operation, operation_of}
use Rattle.bpfvm.specs.Images.{operand_text, operands_text}
use Rattle.bpfvm.proofs.Soundness.{operation_of-none}
use Rattle.bpfvm.proofs.Images.{form-each}
use Rattle.bpfvm.proofs.image.form_of.Goals as goal

pub returns-in_default : goal.returns-in_default
returns-in_default c =
    let unknown : operation_of c.args.code ≡ None = operation_of-none c.args.code (search rules) in
    record {
      operand = λ next i. sym (ap (λ (o : Option Operation). operand_text o next i) unknown);
      operands = λ next i. sym (ap (λ (o : Option Operation). operands_text o next i) unknown);
    }

pub returns-in-32 : goal.returns-in-32
unfolding operation_of
returns-in-32 c = form-each _ (32 ∷ 40 ∷ 48 ∷ []) c.args.code c.in-32.is (search rules)

pub returns-in-64 : goal.returns-in-64
unfolding operation_of
returns-in-64 c = form-each _ (64 ∷ 72 ∷ 80 ∷ []) c.args.code c.in-64.is (search rules)

pub returns-in-177 : goal.returns-in-177
unfolding operation_of
returns-in-177 c = form-each _ (177 ∷ []) c.args.code c.in-177.is (search rules)

pub returns-in-128 : goal.returns-in-128
unfolding operation_of
returns-in-128 c = form-each _ (128 ∷ []) c.args.code c.in-128.is (search rules)

pub returns-in-129 : goal.returns-in-129
unfolding operation_of
returns-in-129 c = form-each _ (129 ∷ []) c.args.code c.in-129.is (search rules)

pub returns-in-96 : goal.returns-in-96
unfolding operation_of
returns-in-96 c = form-each _ (2 ∷ 96 ∷ []) c.args.code c.in-96.is (search rules)

pub returns-in-97 : goal.returns-in-97
unfolding operation_of
returns-in-97 c = form-each _ (3 ∷ 97 ∷ []) c.args.code c.in-97.is (search rules)

pub returns-in-0 : goal.returns-in-0
unfolding operation_of
returns-in-0 c = form-each _ (0 ∷ 68 ∷ 84 ∷ 164 ∷ []) c.args.code c.in-0.is (search rules)

pub returns-in-1 : goal.returns-in-1
unfolding operation_of
returns-in-1 c = form-each _ (1 ∷ []) c.args.code c.in-1.is (search rules)

pub returns-in-4 : goal.returns-in-4
unfolding operation_of
returns-in-4 c = form-each _ (4 ∷ 20 ∷ 36 ∷ 52 ∷ 100 ∷ 116 ∷ 148 ∷ []) c.args.code c.in-4.is (search rules)

pub returns-in-6 : goal.returns-in-6
unfolding operation_of
returns-in-6 c = form-each _ (6 ∷ []) c.args.code c.in-6.is (search rules)

pub returns-in-12 : goal.returns-in-12
unfolding operation_of
returns-in-12 c = form-each _ (12 ∷ 28 ∷ 44 ∷ 60 ∷ 156 ∷ []) c.args.code c.in-12.is (search rules)

pub returns-in-76 : goal.returns-in-76
unfolding operation_of
returns-in-76 c = form-each _ (76 ∷ 92 ∷ 108 ∷ 124 ∷ 172 ∷ []) c.args.code c.in-76.is (search rules)

pub returns-in-5 : goal.returns-in-5
unfolding operation_of
returns-in-5 c = form-each _ (5 ∷ []) c.args.code c.in-5.is (search rules)

pub returns-in-21 : goal.returns-in-21
unfolding operation_of
returns-in-21 c = form-each _ (21 ∷ 37 ∷ 53 ∷ 69 ∷ []) c.args.code c.in-21.is (search rules)

pub returns-in-29 : goal.returns-in-29
unfolding operation_of
returns-in-29 c = form-each _ (29 ∷ 45 ∷ 61 ∷ 77 ∷ []) c.args.code c.in-29.is (search rules)

pub returns-in-132 : goal.returns-in-132
unfolding operation_of
returns-in-132 c = form-each _ (132 ∷ []) c.args.code c.in-132.is (search rules)

pub returns-in-22 : goal.returns-in-22
unfolding operation_of
returns-in-22 c = form-each _ (7 ∷ 22 ∷ 135 ∷ []) c.args.code c.in-22.is (search rules)
