-- What is reported of a split, part after part, and hints that are not wanted.
use Rattle.std.proofs.Common.{◌≡◌, ℕ, zero, suc, ◌+◌, ◌<◌, Bool, false, List, [], ◌∷◌, Option, Result, Ok, Err, Bor, arith, get_or, length, refl, subst, sym, take, ◌∙◌}
use Rattle.std.specs.Prelude.{slice_get}
use Rattle.line_text.specs.declared.form.LineForm.{LineForm}
use Rattle.fault_report.proofs.Telling.{one-quiet}
use Rattle.cli_split.specs.Printed.{output_of}
use Rattle.cli_split.specs.Reporting.{IsStopReport, TellsEnded, TellsFaults, TellsPart, TellsParts, TellsRead}
use Rattle.cli_split.specs.declared.part.PartEnd.{PartEnd}
use Rattle.cli_split.specs.declared.plan.SplitLine.{SplitLine}
use Rattle.cli_split.specs.declared.split.SplitEnd.{SplitEnd}
use Rattle.cli_split.specs.declared.split.Stop.{Stop}

module _ {E : Type 0} (hints failed : E → Bool) (contents : E → Option (List ℕ)) (form : E → LineForm) where
  -- the i-th part is reported after those before it
  parts-more : {W : Type 0} (lines : List SplitLine) (n : ℕ) (parts : List (PartEnd W)) (i : ℕ) (part : PartEnd W) (a b c : E) → i < length parts → part ≡ get_or parts i part
      → TellsParts hints failed contents form lines n (take i parts) a b → TellsPart hints failed contents form (output_of (slice_get lines (n + i))) part.written b c
      → TellsParts hints failed contents form lines n (take (suc i) parts) a c
  parts-more lines n [] i part a b c inside is before told = absurd (omega arith)
  parts-more {W} lines n (p ∷ parts) zero part a b c inside is before told =
      let same : n + 0 ≡ n = omega arith in
      let from = subst (λ d. TellsPart hints failed contents form (output_of (slice_get lines (n + 0))) part.written d c) before told in
      let here = subst (λ k. TellsPart hints failed contents form (output_of (slice_get lines k)) part.written a c) same from in
      (c, subst (λ (x : PartEnd W). TellsPart hints failed contents form (output_of (slice_get lines n)) x.written a c) is here, refl)
  parts-more lines n (p ∷ parts) (suc i) part a b c inside is before told =
      let same : n + suc i ≡ suc n + i = omega arith in
      let here = subst (λ k. TellsPart hints failed contents form (output_of (slice_get lines k)) part.written b c) same told in
      (before.0, before.1, parts-more lines (suc n) parts i part before.0 b c (omega arith) is before.2 here)

  pub next-part : {W : Type 0} (lines : List SplitLine) (parts : List (PartEnd W)) (i : ℕ) (part : PartEnd W) (a b c : E) → i < length parts → part ≡ get_or parts i part
      → TellsParts hints failed contents form lines 0 (take i parts) a b → TellsPart hints failed contents form (output_of (slice_get lines i)) part.written b c
      → TellsParts hints failed contents form lines 0 (take (i + 1) parts) a c
  next-part lines parts i part a b c inside is before told =
      let here : i ≡ 0 + i = omega arith in
      let more : i + 1 ≡ suc i = omega arith in
      rw more (parts-more lines 0 parts i part a b c inside is before (subst (λ k. TellsPart hints failed contents form (output_of (slice_get lines k)) part.written b c) here told))

  -- hints that are not wanted come after the faults of a split
  read-quiet : (paths : List (Bor (List ℕ))) (read : Result (Unit {0}) Stop) (a b c : E) → TellsRead hints failed contents form paths read a b → (hints b ≡ false → c ≡ b)
      → TellsRead hints failed contents form paths read a c
  read-quiet paths (Ok done) a b c told quiet = λ off. quiet (subst (λ d. hints d ≡ false) (sym (told off)) off) ∙ told off
  read-quiet paths (Err stop) a b c told quiet = one-quiet hints failed contents form (IsStopReport paths stop) a b c told quiet

  pub faults-quiet : {R W : Type 0} (lines : List SplitLine) (paths : List (Bor (List ℕ))) (end : SplitEnd R W) (a b c : E) → TellsFaults hints failed contents form lines paths end a b
      → (hints b ≡ false → c ≡ b) → TellsFaults hints failed contents form lines paths end a c
  faults-quiet lines paths end a b c told quiet = (told.0, told.1, read-quiet paths end.end told.0 b c told.2 quiet)

  pub ended-quiet : {R W : Type 0} (lines : List SplitLine) (paths : List (Bor (List ℕ))) (end : SplitEnd R W) (a b c : E) → TellsEnded hints failed contents form lines paths end a b
      → (hints b ≡ false → c ≡ b) → TellsEnded hints failed contents form lines paths end a c
  ended-quiet lines paths end a b c told quiet = (told.0, told.1, told.2, faults-quiet lines paths end told.1 b c told.3 quiet)
