use Rattle.std.proofs.Common.{ℕ, List, ◌++◌, refl, ap}
use Rattle.std.specs.Prelude.{codes}
use Rattle.std.specs.Fmt.{decimal}
use Rattle.bpfvm.specs.Images.{placed_text}
use Rattle.bpfvm.proofs.Images.{written-then, written-as, three_padded}
use Rattle.bpfvm.proofs.image.PlacedInsnDisplay.fmt.Goals as goal

pub returns-clause-writes : goal.returns-clause-writes
unfolding placed_text
returns-clause-writes g c = λ plain ok.
    let wrote = (rw c.laid_out.ensures at c.in_ok-write.ensures.writes) plain refl in
    let place = written-as _ _ _ _ _ (ap (λ (t : List ℕ). codes "(" ++ (t ++ codes ") ")) (three_padded (decimal c.args.self.now.place))) wrote in
    let rest = (rw c.from.ensures at c.write_insn.ensures) place.plain ok in
    written-then _ _ _ _ _ _ place rest
