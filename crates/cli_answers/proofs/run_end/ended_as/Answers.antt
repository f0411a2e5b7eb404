use Rattle.std.proofs.Common.{◌≡◌, false, true, refl, sym, ◌∙◌}
use Rattle.std.proofs.lemmas.Bool.{ne_eqb}
use Rattle.bpfvm.specs.Codes.{operation_of}
use Rattle.bpfvm.specs.Validity.{is_return}
use Rattle.bpfvm.specs.declared.insn.Insn.{Insn}
use Rattle.bpfvm.proofs.Soundness.{is_return-else}
use Rattle.cli_answers.proofs.run_end.ended_as.Goals.{else-insn-ne-RET_K-via-then-insn-ne-RET_K+else-insn-ne-RET_A, else-insn-ne-RET_K-via-else-insn-ne-RET_K}
use Rattle.cli_answers.proofs.run_end.ended_as.Goals as goal

-- both codes are a return's
is-k : (insn : Insn) → insn.code ≡ 6 → is_return insn ≡ true
unfolding is_return operation_of
is-k insn is = rw is refl

is-a : (insn : Insn) → insn.code ≡ 22 → is_return insn ≡ true
unfolding is_return operation_of
is-a insn is = rw is refl

pub returns-then-insn-ne-RET_A : goal.returns-then-insn-ne-RET_A
returns-then-insn-ne-RET_A c =
    let insn = c.args.insn.now in
    let none : is_return insn ≡ false = sym (is_return-else insn c.if-insn-ne-RET_K.true) ∙ ne_eqb insn.code 22 c.if-insn-ne-RET_A.true in
    rw none refl

pub returns-then-answer-eq0 : goal.returns-then-answer-eq0
returns-then-answer-eq0 c = elim c.else-insn-ne-RET_K.branch [
  | else-insn-ne-RET_K-via-then-insn-ne-RET_K+else-insn-ne-RET_A w ↦ rw (is-a c.args.insn.now w.if-insn-ne-RET_A.false, c.if-answer-eq0.true) refl
  | else-insn-ne-RET_K-via-else-insn-ne-RET_K w ↦ rw (is-k c.args.insn.now w.if-insn-ne-RET_K.false, c.if-answer-eq0.true) refl
]

pub returns-else-answer-eq0 : goal.returns-else-answer-eq0
returns-else-answer-eq0 c =
    let some = ne_eqb c.args.answer 0 c.if-answer-eq0.false in
    elim c.else-insn-ne-RET_K.branch [
      | else-insn-ne-RET_K-via-then-insn-ne-RET_K+else-insn-ne-RET_A w ↦ rw (is-a c.args.insn.now w.if-insn-ne-RET_A.false, some) refl
      | else-insn-ne-RET_K-via-else-insn-ne-RET_K w ↦ rw (is-k c.args.insn.now w.if-insn-ne-RET_K.false, some) refl
    ]
