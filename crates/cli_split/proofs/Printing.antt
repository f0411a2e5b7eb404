-- The lines of parts.
use Rattle.std.proofs.Common.{◌≡◌, ℕ, true, false, List, [], refl, ap, Result, Ok, Err}
use Rattle.std.specs.Prelude.{if◌then◌else◌, OnOk}
use Rattle.std.specs.Result.{is_err}
use Rattle.savefile.specs.declared.fault.Fault.{Fault}
use Rattle.pcap_cut.specs.declared.cut.Tally.{Tally}
use Rattle.cli_text.specs.Status.{greater}
use Rattle.cli_text.specs.Telling.{print_status_of}
use Rattle.cli_text.specs.declared.status.Status.{Status}
use Rattle.cli_text.specs.declared.status.Status.TheVariants.{Failed}
use Rattle.line_text.specs.declared.form.NamingForm.{NamingForm}
use Rattle.line_text.specs.Texts.{numbered}
use Rattle.cli_split.specs.declared.plan.SplitLine.{SplitLine}
use Rattle.cli_split.specs.declared.split.SplitEnd.{SplitEnd}
use Rattle.cli_split.specs.Printed.{count_line, line_text, printed_split, told_part}
use Rattle.cli_split.specs.Splitting.{passes_header}

-- a part that was written whole has a line
pub told-whole : (form : NamingForm) (output : List ℕ) (tally : Tally) (written : Result (Unit {0}) Fault) → is_err written ≡ false → count_line form output tally ≡ told_part form output tally written
told-whole form output tally (Ok done) works = refl
told-whole form output tally (Err fault) works = let bad : true ≡ false = works in absurd cc

-- and another one has none
pub told-none : (form : NamingForm) (output : List ℕ) (tally : Tally) (written : Result (Unit {0}) Fault) → is_err written ≡ true → [] ≡ told_part form output tally written
told-none form output tally (Ok done) failed = let bad : false ≡ true = failed in absurd cc
told-none form output tally (Err fault) failed = refl

-- the lines of all parts, where these were begun, and else none
pub printed-all : {R W : Type 0} (form : NamingForm) (lines : List SplitLine) (end : SplitEnd R W) → true ≡ passes_header end.end → numbered (line_text form lines) 0 end.parts.items ≡ printed_split form lines end
printed-all form lines end begun = ap (λ b. if b then numbered (line_text form lines) 0 end.parts.items else []) begun

pub printed-none : {R W : Type 0} (form : NamingForm) (lines : List SplitLine) (end : SplitEnd R W) → false ≡ passes_header end.end → [] ≡ printed_split form lines end
printed-none form lines end unbegun = ap (λ b. if b then numbered (line_text form lines) 0 end.parts.items else []) unbegun

-- where the greatest status is not that of a failed device, printing went well
pub printed-ok : {A E : Type 0} (printed : Result A E) (other ended : Status) (P : Type 0) → ended ≡ greater (print_status_of printed) other → (ended ≡ Failed → ⊥) → OnOk printed P → P
printed-ok (Ok done) other ended P is not_failed well = well
printed-ok (Err error) other ended P is not_failed well = absurd (not_failed is)
