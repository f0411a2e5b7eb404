-- What standard error takes, report after report.
use Rattle.std.proofs.Common.{◌≡◌, ℕ, Bool, false, List, [], ◌++◌, Option, refl, sym, subst, ap, ◌∙◌, append_assoc}
use Rattle.std.proofs.lemmas.List.{append-nil}
use Rattle.std.proofs.KnownBytes.{Appends-nil, Appends-trans}
use Rattle.std.specs.Io.KnownBytes.{Appends}
use Rattle.line_text.specs.declared.form.LineForm.{LineForm}
use Rattle.fault_report.specs.declared.report.Report.{Report}
use Rattle.fault_report.specs.Reports.{TellsAmong, TellsMore, TellsOne, reported}

module _ {E : Type 0} (hints failed : E → Bool) (contents : E → Option (List ℕ)) (form : E → LineForm) where
  -- nothing was reported
  pub more-none : (a : E) → TellsMore hints failed contents form a a
  more-none a = λ off. (off, refl, λ ok. (ok, [], Appends-nil (contents a)))

  -- one report is something, and is among what was reported
  pub one-more : (says : Report → Type 0) (a b : E) → TellsOne hints failed contents form says a b → TellsMore hints failed contents form a b
  one-more says a b one = λ off. let told = one.2 off in (told.0, told.1, λ ok. let taken = told.2 ok in (taken.0, reported (form a) one.0, taken.1))

  pub one-among : (says : Report → Type 0) (a b : E) → TellsOne hints failed contents form says a b → TellsAmong hints failed contents form says a b
  one-among says a b one = (
    one.0,
    one.1,
    λ off. let told = one.2 off in (
      told.0,
      told.1,
      λ ok. let taken = told.2 ok in
          (taken.0, [], [], subst (λ (t : List ℕ). Appends (contents a) (contents b) t) (sym (append-nil (reported (form a) one.0))) taken.1),
    ),
  )

  pub among-is-more : (says : Report → Type 0) (a b : E) → TellsAmong hints failed contents form says a b → TellsMore hints failed contents form a b
  among-is-more says a b among = λ off. let told = among.2 off in (
    told.0,
    told.1,
    λ ok. let taken = told.2 ok in
        (taken.0, taken.1 ++ reported (form a) among.0 ++ taken.2, taken.3),
  )

  -- one after the other
  pub more-more : (a b c : E) → TellsMore hints failed contents form a b → TellsMore hints failed contents form b c → TellsMore hints failed contents form a c
  more-more a b c first second = λ off. let p = first off in let q = second p.0 in (
    q.0,
    q.1 ∙ p.1,
    λ ok. let y = q.2 ok in let x = p.2 y.0 in
        (x.0, x.1 ++ y.1, Appends-trans (contents a) (contents b) (contents c) x.1 y.1 x.2 y.2),
  )

  pub more-among : (says : Report → Type 0) (a b c : E) → TellsMore hints failed contents form a b → TellsAmong hints failed contents form says b c →
      TellsAmong hints failed contents form says a c
  more-among says a b c first second = (
    second.0,
    second.1,
    λ off. let p = first off in let q = second.2 p.0 in (
      q.0,
      q.1 ∙ p.1,
      λ ok. let y = q.2 ok in let x = p.2 y.0 in
          let line = reported (form a) second.0 in (
            x.0,
            x.1 ++ y.1,
            y.2,
            subst (λ (t : List ℕ). Appends (contents a) (contents c) t)
                (ap (λ f. x.1 ++ (y.1 ++ reported f second.0 ++ y.2)) p.1 ∙ sym (append_assoc x.1 (y.1 ++ line) y.2) ∙ ap (λ (t : List ℕ). t ++ y.2) (sym (append_assoc x.1 y.1 line)))
                (Appends-trans (contents a) (contents b) (contents c) x.1 (y.1 ++ reported (form b) second.0 ++ y.2) x.2 y.3),
          ),
    ),
  )

  pub among-more : (says : Report → Type 0) (a b c : E) → TellsAmong hints failed contents form says a b → TellsMore hints failed contents form b c →
      TellsAmong hints failed contents form says a c
  among-more says a b c first second = (
    first.0,
    first.1,
    λ off. let p = first.2 off in let q = second p.0 in (
      q.0,
      q.1 ∙ p.1,
      λ ok. let y = q.2 ok in let x = p.2 y.0 in
          let line = reported (form a) first.0 in (
            x.0,
            x.1,
            x.2 ++ y.1,
            subst (λ (t : List ℕ). Appends (contents a) (contents c) t)
                (append_assoc (x.1 ++ line) x.2 y.1)
                (Appends-trans (contents a) (contents b) (contents c) (x.1 ++ line ++ x.2) y.1 x.3 y.2),
          ),
    ),
  )

  -- and hints after it, which are not wanted
  pub one-quiet : (says : Report → Type 0) (a b c : E) → TellsOne hints failed contents form says a b → (hints b ≡ false → c ≡ b) → TellsOne hints failed contents form says a c
  one-quiet says a b c told quiet = (
    told.0,
    told.1,
    λ off. subst (λ d. (hints d ≡ false) × (form d ≡ form a) × (failed d ≡ false → (failed a ≡ false) × Appends (contents a) (contents d) (reported (form a) told.0)))
        (sym (quiet (told.2 off).0)) (told.2 off),
  )

  pub more-quiet : (a b c : E) → TellsMore hints failed contents form a b → (hints b ≡ false → c ≡ b) → TellsMore hints failed contents form a c
  more-quiet a b c told quiet = λ off. subst (λ d. (hints d ≡ false) × (form d ≡ form a) × (failed d ≡ false → (failed a ≡ false) × (more : List ℕ) × Appends (contents a) (contents d) more))
      (sym (quiet (told off).0)) (told off)

  pub among-quiet : (says : Report → Type 0) (a b c : E) → TellsAmong hints failed contents form says a b → (hints b ≡ false → c ≡ b) →
      TellsAmong hints failed contents form says a c
  among-quiet says a b c told quiet = among-more says a b c told (λ off. subst (λ d. (hints d ≡ false) × (form d ≡ form b) × (failed d ≡ false → (failed b ≡ false) × (more : List ℕ) × Appends (contents b) (contents d) more))
      (sym (quiet off)) (more-none b off))
