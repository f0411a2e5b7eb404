-- What standard error takes of a refusal, with the name below it, and of what comes after another.
use Rattle.std.proofs.Common.{◌≡◌, ℕ, Bool, false, List, [], ◌++◌, Option, Some, None, Result, Bor, refl, sym, subst, ◌∙◌}
use Rattle.std.proofs.lemmas.List.{append-nil}
use Rattle.std.proofs.KnownBytes.{Appends-nil, Appends-trans}
use Rattle.std.specs.Io.KnownBytes.{Appends}
use Rattle.line_text.specs.declared.form.LineForm.{LineForm}
use Rattle.line_text.specs.declared.form.LineForm.TheVariants.{Text, Json}
use Rattle.fault_report.specs.Reports.{Tells, TellsAmong, TellsMore, TellsOne, reported}
use Rattle.fault_report.specs.declared.report.Report.{Report}
use Rattle.fault_report.proofs.Telling.{among-more, more-among, one-among}
use Rattle.cli_answers.specs.declared.printing.Unprinted.{Unprinted}
use Rattle.cli_answers.specs.Telling.{IsUnprintedReport, TellsUnprinted}
use Rattle.cli_compare.specs.declared.outcome.OutFault.{OutFault}
use Rattle.cli_compare.specs.Telling.{IsOutReport, TellsOut, TellsWith, below}

module _ {E : Type 0} (hints failed : E → Bool) (contents : E → Option (List ℕ)) (form : E → LineForm) where
  -- nothing was told
  pub tells-none : (a : E) → Tells hints failed contents form a a []
  tells-none a = λ off. (off, refl, λ ok. (ok, Appends-nil (contents a)))

  -- a name was told in the form of text, and in that of JSON none
  pub name-below : (name : List ℕ) (a b : E) (f : LineForm) → f ≡ form a → f ≡ Text → Tells hints failed contents form a b (below (Some name) Text) → Tells hints failed contents form a b (below (Some name) (form a))
  name-below name a b f is text told = subst (λ g. Tells hints failed contents form a b (below (Some name) g)) (sym text ∙ is) told

  pub none-below : (name : List ℕ) (a : E) (f : LineForm) → f ≡ form a → f ≡ Json → Tells hints failed contents form a a (below (Some name) (form a))
  none-below name a f is json = subst (λ g. Tells hints failed contents form a a (below (Some name) g)) (sym json ∙ is) (tells-none a)

  -- hints after it are not wanted
  tells-quiet : (text : List ℕ) (a b c : E) → Tells hints failed contents form a b text → (hints b ≡ false → c ≡ b) → Tells hints failed contents form a c text
  tells-quiet text a b c told quiet = λ off.
      subst (λ d. (hints d ≡ false) × (form d ≡ form a) × (failed d ≡ false → (failed a ≡ false) × Appends (contents a) (contents d) text)) (sym (quiet (told off).0)) (told off)

  -- a fault, a name below it, and hints
  pub fault-with : (says : Report → Type 0) (line : Option (List ℕ)) (report : Report) (a b c d : E) → says report → Tells hints failed contents form a b (reported (form a) report) →
      Tells hints failed contents form b c (below line (form b)) → (hints c ≡ false → d ≡ c) → TellsWith hints failed contents form line says a d
  fault-with says line report a b c d is first second quiet = (
    report,
    is,
    tells-quiet (reported (form a) report ++ below line (form a)) a c d
        (λ off. let p = first off in let q = second p.0 in (
          q.0,
          q.1 ∙ p.1,
          λ ok. let y = q.2 ok in let x = p.2 y.0 in (
            x.0,
            subst (λ f. Appends (contents a) (contents c) (reported (form a) report ++ below line f)) p.1
                (Appends-trans (contents a) (contents b) (contents c) (reported (form a) report) (below line (form b)) x.1 y.1),
          ),
        )) quiet,
  )

  -- a fault with no name below it
  pub one-with : (says : Report → Type 0) (a b : E) → TellsOne hints failed contents form says a b → TellsWith hints failed contents form None says a b
  one-with says a b one = (
    one.0,
    one.1,
    subst (λ (t : List ℕ). Tells hints failed contents form a b t) (sym (append-nil (reported (form a) one.0))) one.2,
  )

  pub one-with-as : (says : Report → Type 0) (line : Option (List ℕ)) (a b : E) → line ≡ None → TellsOne hints failed contents form says a b → TellsWith hints failed contents form line says a b
  one-with-as says line a b none one = subst (λ (l : Option (List ℕ)). TellsWith hints failed contents form l says a b) (sym none) (one-with says a b one)

  -- why an answer was not printed, and nothing after it
  pub answer-among : {A : Type 0} (answer : Result A Unprinted) (a b : E) → TellsUnprinted (λ says. TellsOne hints failed contents form says a b) answer →
      TellsUnprinted (λ says. TellsAmong hints failed contents form says a b) answer
  answer-among answer a b told = λ why is wanted. one-among hints failed contents form (IsUnprintedReport why) a b (told why is wanted)

  -- or more
  pub answer-before : {A : Type 0} (answer : Result A Unprinted) (a b c : E) → TellsUnprinted (λ says. TellsOne hints failed contents form says a b) answer → TellsMore hints failed contents form b c →
      TellsUnprinted (λ says. TellsAmong hints failed contents form says a c) answer
  answer-before answer a b c told more = λ why is wanted. let says = IsUnprintedReport why in
      among-more hints failed contents form says a b c (one-among hints failed contents form says a b (told why is wanted)) more

  -- why OUT has no packet, after more
  pub out-after : (path : Bor (List ℕ)) (wrote : Result (Unit {0}) OutFault) (a b c : E) → TellsMore hints failed contents form a b →
      TellsOut (λ says. TellsOne hints failed contents form says b c) path wrote → TellsOut (λ says. TellsAmong hints failed contents form says a c) path wrote
  out-after path wrote a b c more told = λ fault is. let says = IsOutReport path fault in
      more-among hints failed contents form says a b c more (one-among hints failed contents form says b c (told fault is))
