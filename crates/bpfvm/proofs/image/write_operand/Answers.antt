use Rattle.bpfvm.proofs.Images.{written-as, signed_operand}
use Rattle.bpfvm.proofs.image.write_operand.Goals as goal

pub returns-in-Signed-clause-writes : goal.returns-in-Signed-clause-writes
returns-in-Signed-clause-writes g c = λ plain ok.
    written-as _ _ _ _ _ (signed_operand c.args.form c.args.next c.args.insn.now c.in-Signed.is) (c.write_signed.ensures plain ok)
