-- Nothing is reported, and hints that are not wanted come after what is.
use Rattle.std.proofs.Common.{◌≡◌, ℕ, Bool, false, List, [], Option, Result, Ok, Err, refl, subst, sym, ◌∙◌}
use Rattle.std.proofs.KnownBytes.{Appends-nil}
use Rattle.line_text.specs.declared.form.LineForm.{LineForm}
use Rattle.fault_report.specs.Reports.{IsDevice, IsNoMemory, Tells}
use Rattle.fault_report.specs.declared.report.Subject.TheVariants.{StandardOutput}
use Rattle.cli_filter.specs.Reports.{IsExpressionReport}
use Rattle.fault_report.proofs.Telling.{one-quiet}
use Rattle.cli_cut.specs.Reporting.{TellsPrint}
use Rattle.cli_cut.specs.declared.print.PrintFault.{PrintFault}
use Rattle.cli_cut.specs.declared.print.PrintFault.TheVariants as print

module _ {E : Type 0} (hints failed : E → Bool) (contents : E → Option (List ℕ)) (form : E → LineForm) where
  pub nothing_told : (e : E) → Tells hints failed contents form e e []
  nothing_told e = λ off. (off, refl, λ works. (works, Appends-nil (contents e)))

  -- twice nothing
  both-quiet : (a b c : E) → (hints a ≡ false → b ≡ a) → (hints b ≡ false → c ≡ b) → hints a ≡ false → c ≡ a
  both-quiet a b c first second = λ off. second (subst (λ d. hints d ≡ false) (sym (first off)) off) ∙ first off

  pub print-quiet : (done : Result (Unit {0}) PrintFault) (a b c : E) → TellsPrint hints failed contents form done a b → (hints b ≡ false → c ≡ b) → TellsPrint hints failed contents form done a c
  print-quiet (Ok done) a b c told quiet = both-quiet a b c told quiet
  print-quiet (Err (print.Output error)) a b c told quiet = (λ gone. both-quiet a b c (told.0 gone) quiet, λ there. one-quiet hints failed contents form (IsDevice StandardOutput) a b c (told.1 there) quiet)
  print-quiet (Err print.NoMemory) a b c told quiet = one-quiet hints failed contents form IsNoMemory a b c told quiet
  print-quiet (Err (print.Expression fault)) a b c told quiet = one-quiet hints failed contents form (IsExpressionReport fault) a b c told quiet
