use Rattle.std.proofs.Common.{ℕ, List, Bor, true, option_copied, sym, subst}
use Rattle.cli_store.specs.Files.{IsLost}
use Rattle.cli_store.specs.Memory.{itself}
use Rattle.cli_store.proofs.Shared.{found_later, lost_later, lost_printed, lost_read}
use Rattle.cli_store.proofs.memory.+find_lost.Goals as goal

pub returns-then-is_any_lost-clause-lost : goal.returns-then-is_any_lost-clause-lost
returns-then-is_any_lost-clause-lost t c =
    let P : List (Bor (List ℕ)) → Type 0 = IsLost itself (option_copied c.args.printed) true c.args.read.now in
    subst P (sym c.in_ok-output.ensures.cases.0)
    (lost_read (option_copied c.args.printed) c.args.read.now c.in_ok-output.output.now c.in_ok-output.others.now (c.is_any_lost.ensures.same c.if-is_any_lost.true))

pub returns-then-is_printed-clause-lost : goal.returns-then-is_printed-clause-lost
returns-then-is_printed-clause-lost t c =
    let P : List (Bor (List ℕ)) → Type 0 = IsLost itself (option_copied c.args.printed) true c.args.read.now in
    subst P (sym c.in_ok-output.ensures.cases.0)
    (lost_printed (option_copied c.args.printed) c.args.read.now c.in_ok-output.output.now c.in_ok-output.others.now (c.is_printed.ensures.0 c.if-is_printed.true))

pub returns-clause-lost : goal.returns-clause-lost
returns-clause-lost t c =
    let P : List (Bor (List ℕ)) → Type 0 = IsLost itself (option_copied c.args.printed) true c.args.read.now in
    found_later P c.args.outputs.now c.in_ok-output.others.now
    (λ later. subst P (sym c.in_ok-output.ensures.cases.0) (lost_later (option_copied c.args.printed) c.args.read.now c.in_ok-output.output.now c.in_ok-output.others.now later))
    c.find_lost.result c.find_lost.ensures.lost
