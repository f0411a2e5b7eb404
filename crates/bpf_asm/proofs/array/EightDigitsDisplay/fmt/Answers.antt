use Rattle.std.proofs.Common.{false}
use Rattle.std.specs.Fmt.{digits}
use Rattle.bpfvm.proofs.Images.{written-as}
use Rattle.bpf_asm.proofs.Arrays.{eight_padded}
use Rattle.bpf_asm.proofs.array.EightDigitsDisplay.fmt.Goals as goal

pub returns-clause-writes : goal.returns-clause-writes
returns-clause-writes g c = λ plain ok.
    written-as _ _ _ _ _ (eight_padded (digits 16 false c.args.self.now.0)) ((rw (c.laid_out.ensures, c.in_radix.ensures) at c.write.ensures.writes) plain ok)
