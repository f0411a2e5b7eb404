-- What is printed of answers, step by step.
use Rattle.std.proofs.Common.{◌≡◌, ℕ, zero, suc, ◌<◌, ◌≤◌, get_or, List, [], ◌∷◌, ◌++◌, length, drop, Option, refl, sym, ap, subst, ◌∙◌, append_assoc, arith}
use Rattle.std.proofs.Math.ListN.{set}
use Rattle.std.proofs.Math.Seq.{drop-cons}
use Rattle.std.proofs.KnownBytes.{Appends-trans}
use Rattle.std.proofs.lemmas.List.{append-nil, drop_all}
use Rattle.std.proofs.lemmas.Option.{slice_get_read, slice_get_past}
use Rattle.std.specs.Io.KnownBytes.{Appends}
use Rattle.tap_steps.specs.declared.playlist.PlacedPacket.{PlacedPacket}
use Rattle.tap_steps.specs.declared.step.Step.{Step}
use Rattle.line_text.specs.declared.form.LineForm.{LineForm}
use Rattle.line_text.specs.Sending.{TakesPart}
use Rattle.line_text.proofs.Taking.{TakesPart-more, TakesPart-then}
use Rattle.tap_text.specs.Answers.{Cursor, next_line, advanced, one_advanced, line_of, line_at, step_text, packets_after, cursors_after, answers_from}

-- ---- One listener of several

pub line_some : (form : LineForm) (n l : ℕ) (xs : List Cursor) (x : Cursor) → l < length xs → x ≡ get_or xs l x → line_at form n l xs ≡ next_line form n l x
line_some form n l xs x inside is = ap (line_of form n l) (slice_get_read xs (length xs) l x refl inside is)

pub line_none : (form : LineForm) (n l : ℕ) (xs : List Cursor) → length xs ≤ l → line_at form n l xs ≡ []
line_none form n l xs outside = ap (line_of form n l) (slice_get_past xs l outside)

pub set_advanced : (n l : ℕ) (xs : List Cursor) (x y : Cursor) → l < length xs → x ≡ get_or xs l x → y ≡ advanced n x → set xs l y ≡ one_advanced n l xs
set_advanced n l [] x y inside is made = absurd (omega arith)
set_advanced n zero (z ∷ xs) x y inside is made = ap (λ (u : Cursor). u ∷ xs) (made ∙ ap (advanced n) is)
set_advanced n (suc l) (z ∷ xs) x y inside is made = ap (λ (us : List Cursor). z ∷ us) (set_advanced n l xs x y (omega arith) is made)

pub none_advanced : (n l : ℕ) (xs : List Cursor) → length xs ≤ l → xs ≡ one_advanced n l xs
none_advanced n l [] outside = refl
none_advanced n zero (x ∷ xs) outside = absurd (omega arith)
none_advanced n (suc l) (x ∷ xs) outside = ap (λ (us : List Cursor). x ∷ us) (none_advanced n l xs (omega arith))

-- ---- Step by step

-- an element of a list stands in it, whatever is taken past its end
pub get_or_again : {X : Type 0} (xs : List X) (i : ℕ) (d : X) → get_or xs i d ≡ get_or xs i (get_or xs i d)
get_or_again [] i d = refl
get_or_again (x ∷ xs) zero d = refl
get_or_again (x ∷ xs) (suc i) d = get_or_again xs i d

-- the writer took a front of a text, and this is the rest
abbrev pub IsSoFar : Option (List ℕ) → Option (List ℕ) → List ℕ → List ℕ → Type 0
IsSoFar old new whole rest = (front : List ℕ) × Appends old new front × (whole ≡ front ++ rest)

-- a part of the rest was taken
takes_part : (a b c : Option (List ℕ)) (whole text later : List ℕ) → IsSoFar a b whole (text ++ later) → TakesPart b c text → TakesPart a c whole
takes_part a b c whole text later far part =
    subst (TakesPart a c) (sym far.2) (TakesPart-then a b c far.0 (text ++ later) far.1 (TakesPart-more b c text later part))

takes_more : (a b c : Option (List ℕ)) (whole text later : List ℕ) → IsSoFar a b whole (text ++ later) → Appends b c text → IsSoFar a c whole later
takes_more a b c whole text later far taken =
    (far.0 ++ text, Appends-trans a b c far.0 text far.1 taken, far.2 ∙ sym (append_assoc far.0 text later))

-- what is left before the step at this place
module _ (a b c : Option (List ℕ)) (whole : List ℕ) (form : LineForm) (i n : ℕ) (step : Step) (steps : List Step) (packets : List PlacedPacket) (xs : List Cursor)
    (next : n ≡ suc i) (inside : i < length steps) (is : step ≡ get_or steps i step) (far : IsSoFar a b whole (answers_from form (suc i) (drop i steps) packets xs)) where
  opened : IsSoFar a b whole (step_text form n step packets xs ++ answers_from form (suc n) (drop n steps) (packets_after step packets) (cursors_after n step packets xs))
  opened =
      let cut : drop i steps ≡ step ∷ drop (suc i) steps = drop-cons steps i step inside ∙ ap (λ (s : Step). s ∷ drop (suc i) steps) (sym is) in
      let here : IsSoFar a b whole (answers_from form (suc i) (step ∷ drop (suc i) steps) packets xs) =
      subst (λ (s : List Step). IsSoFar a b whole (answers_from form (suc i) s packets xs)) cut far in
      subst (λ (k : ℕ). IsSoFar a b whole (step_text form k step packets xs ++ answers_from form (suc k) (drop k steps) (packets_after step packets) (cursors_after k step packets xs))) (sym next) here

  pub step_fails : TakesPart b c (step_text form n step packets xs) → TakesPart a c whole
  step_fails part = takes_part a b c whole (step_text form n step packets xs) _ opened part

  pub step_done : (later : List PlacedPacket) (ys : List Cursor) → later ≡ packets_after step packets → ys ≡ cursors_after n step packets xs → Appends b c (step_text form n step packets xs) →
      IsSoFar a c whole (answers_from form (suc n) (drop n steps) later ys)
  step_done later ys passed gone taken =
      let more = takes_more a b c whole (step_text form n step packets xs) _ opened taken in
      subst (λ (ps : List PlacedPacket). IsSoFar a c whole (answers_from form (suc n) (drop n steps) ps ys)) (sym passed)
      (subst (λ (zs : List Cursor). IsSoFar a c whole (answers_from form (suc n) (drop n steps) (packets_after step packets) zs)) (sym gone) more)

-- where no step is left, all was taken
pub all_done : (a b : Option (List ℕ)) (whole : List ℕ) (form : LineForm) (i : ℕ) (steps : List Step) (packets : List PlacedPacket) (xs : List Cursor) →
    length steps ≤ i → IsSoFar a b whole (answers_from form (suc i) (drop i steps) packets xs) → Appends a b whole
all_done a b whole form i steps packets xs past far =
    let none : drop i steps ≡ [] = drop_all i steps past in
    let same : whole ≡ far.0 = far.2 ∙ ap (λ (s : List Step). far.0 ++ answers_from form (suc i) s packets xs) none ∙ append-nil far.0 in
    subst (Appends a b) (sym same) far.1
