use Rattle.std.proofs.Common.{ℕ, List, ◌++◌, false, ap, sym, ◌∙◌}
use Rattle.std.specs.Prelude.{codes}
use Rattle.std.specs.Fmt.{digits}
use Rattle.bpfvm.proofs.Images.{written-as, hex_column, hex_operand}
use Rattle.bpfvm.proofs.image.HexadecimalColumnDisplay.fmt.Goals as goal

pub returns-clause-writes : goal.returns-clause-writes
returns-clause-writes g c = λ plain ok.
    let ds = digits 16 false c.args.self.now.0 in
    written-as _ _ _ _ _ (ap (λ (t : List ℕ). codes "#0x" ++ t) (hex_column ds) ∙ sym (hex_operand ds))
    ((rw (c.laid_out.ensures, c.in_radix.ensures) at c.write.ensures.writes) plain ok)
