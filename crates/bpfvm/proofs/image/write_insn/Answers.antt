use Rattle.std.proofs.Common.{ℕ, List, ◌++◌, refl, ap}
use Rattle.std.specs.Prelude.{codes}
use Rattle.bpfvm.specs.Codes.{operation_of}
use Rattle.bpfvm.specs.Images.{column, name_of, insn_text}
use Rattle.bpfvm.proofs.Images.{written-then, written-as, name_column}
use Rattle.bpfvm.proofs.image.write_insn.Goals as goal

pub returns : goal.returns
unfolding insn_text
returns g c = λ plain ok.
    let i = c.args.insn.now in
    let o = operation_of i.code in
    let wrote = (rw (c.laid_out.ensures, c.name_of-name.ensures) at c.in_ok-write.ensures.writes) plain refl in
    let name = written-as _ _ _ _ _ (ap (λ (t : List ℕ). t ++ codes " ") (name_column o)) wrote in
    let rest = c.write_operands.ensures name.plain ok in
    written-as _ _ _ _ _ (ap (λ (t : List ℕ). (column 8 (name_of o) ++ codes " ") ++ t) (c.form_of.ensures.operands c.args.next i))
    (written-then _ _ _ _ _ _ name rest)
