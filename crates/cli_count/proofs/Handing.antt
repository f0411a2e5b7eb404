-- What was printed is handed on.
use Rattle.std.proofs.Common.{◌≡◌, Result, Ok, Err, sym, ◌∙◌}
use Rattle.std.specs.Prelude.{OnOk}
use Rattle.cli_text.specs.Status.{greater}
use Rattle.cli_text.specs.declared.status.Status.{Status}
use Rattle.cli_text.specs.declared.status.Status.TheVariants.{Clean}
use Rattle.cli_walk.specs.declared.walk.Stop.{Stop}
use Rattle.cli_answers.specs.declared.printing.Unprinted.{Unprinted}
use Rattle.cli_answers.specs.declared.printing.Unprinted.TheVariants.{NoMemory, Output}
use Rattle.cli_answers.specs.Telling.{printed_status, stop_status}
use Rattle.cli_answers.proofs.Statuses.{clean-both}

not-clean : (why : Unprinted) → printed_status {A = Unit {0}} (Err why) ≡ Clean → ⊥
not-clean NoMemory is = absurd (cc)
not-clean (Output error) is = absurd (cc)

-- if all went well, so did the printing
pub handed : {A : Type 0} (printed : Result (Unit {0}) Unprinted) (read : Result A Stop) (other ended : Status) (P : Type 0) →
    ended ≡ greater (greater (printed_status printed) (stop_status read)) other → ended ≡ Clean → OnOk printed P → P
handed (Ok done) read other ended P is clean on = on
handed (Err why) read other ended P is clean on =
    let first = (clean-both (greater (printed_status {A = Unit {0}} (Err why)) (stop_status read)) other (sym is ∙ clean)).0 in
    absurd (not-clean why (clean-both (printed_status {A = Unit {0}} (Err why)) (stop_status read) first).0)
