use Rattle.std.proofs.Common.{◌≡◌, inr, List, ℕ, [], Some, refl, subst}
use Rattle.std.proofs.lemmas.List.{append-nil}
use Rattle.savefile.specs.Savefile.{first_fault}
use Rattle.savefile.proofs.record.record_of.Goals as goal

pub returns-in-Err-clause-fault : goal.returns-in-Err-clause-fault
returns-in-Err-clause-fault c =
    let header = c.args.header in
    subst (λ (text : List ℕ). first_fault header.order header.unit c.args.place text ≡ Some c.in-Err.fault) (append-nil c.args.text.now)
    (c.in-Err.ensures.err [] (inr refl))
