use Rattle.std.proofs.Common.{◌≡◌, ℕ, List, [], ◌++◌, refl, ap, sym, subst, ◌∙◌, arith}
use Rattle.std.specs.Prelude.{codes}
use Rattle.std.proofs.lemmas.List.{append-nil}
use Rattle.bpfvm.specs.declared.image.OperandForm.{OperandForm}
use Rattle.bpfvm.specs.Codes.{operation_of}
use Rattle.bpfvm.specs.Images.{name_of, operand_text, spaced, brief_text}
use Rattle.bpfvm.specs.Naming.{operand_in}
use Rattle.bpfvm.proofs.Images.{written-then, written-as, spaced_operand}
use Rattle.bpfvm.proofs.image.BriefDisplay.fmt.Goals as goal

pub returns-in-Nothing-clause-writes : goal.returns-in-Nothing-clause-writes
unfolding brief_text
returns-in-Nothing-clause-writes g c = λ plain ok.
    let i = c.args.self.now.0.now in
    let o = operation_of i.code in
    let none : [] ≡ operand_text o 0 i = subst (λ (form : OperandForm). operand_in form 0 i ≡ operand_text o 0 i) c.in-Nothing.is (c.form_of-form.ensures.operand 0 i) in
    written-as _ _ _ _ _ (c.name_of.ensures ∙ sym (append-nil (name_of o)) ∙ ap (λ (t : List ℕ). name_of o ++ spaced t) none)
    (c.in_ok-write_str.ensures.writes plain refl)

pub returns-in_ok-write_str-in_default : goal.returns-in_ok-write_str-in_default
unfolding brief_text
returns-in_ok-write_str-in_default g c = record {
  writes = λ plain ok.
      let i = c.args.self.now.0.now in
      let o = operation_of i.code in
      let form = c.form_of-form.result in
      let wrote = c.in_ok-write_str.ensures.writes plain refl in
      let blank = c.in_ok-write_str-in_default.ensures.writes wrote.plain refl in
      let rest = c.write_operand.ensures.writes blank.plain ok in
      let operand = sym (spaced_operand form 0 i c.in_default.not-Nothing (omega (arith, c.write_operand.ensures.fits))) ∙ ap spaced (c.form_of-form.ensures.operand 0 i) in
      written-as _ _ _ _ _ (ap (λ (t : List ℕ). t ++ (codes " " ++ operand_in form 0 i)) c.name_of.ensures ∙ ap (λ (t : List ℕ). name_of o ++ t) operand)
      (written-then _ _ _ _ _ _ wrote (written-then _ _ _ _ _ _ blank rest));
  styled = tt;
}
