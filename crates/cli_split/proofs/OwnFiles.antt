-- The OUTs that are compared, and those of all lines.
use Rattle.std.proofs.Common.{◌≡◌, ◌≢◌, ◌⊎◌, inl, inr, ℕ, zero, suc, ◌<◌, ◌++◌, ◌&&◌, ◌||◌, Bool, true, false, if◌then◌else◌, List, [], ◌∷◌, All, Bor, get_or, length, codes, refl, sym, ◌∙◌, ap, subst, arith, Option, Some}
use Rattle.std.specs.Str.{bytes_eq}
use Rattle.std.proofs.lemmas.Slice.Eq.{bytes_eq-Decides}
use Rattle.cli_store.specs.Files.{HaveOwnPlaces, Places}
use Rattle.cli_split.specs.Lines.{is_null}
use Rattle.cli_split.specs.SplitFiles.{HaveOwnFiles, own_outputs}
use Rattle.cli_split.specs.declared.plan.SplitLine.{SplitLine}

-- ---- Lists

pub all-head : {X : Type 0} (P : X → Type 0) (x : X) (xs : List X) → All P (x ∷ xs) → P x
all-head P x xs each = each zero x (omega arith)

pub all-tail : {X : Type 0} (P : X → Type 0) (x : X) (xs : List X) → All P (x ∷ xs) → All P xs
all-tail P x xs each = λ k d inside. each (suc k) d (omega (arith, inside))

pub all-none : {X : Type 0} (P : X → Type 0) → All P []
all-none P = λ k d inside. absurd (omega (arith, inside))

pub all-cons : {X : Type 0} (P : X → Type 0) (x : X) (xs : List X) → P x → All P xs → All P (x ∷ xs)
all-cons P x xs first each zero d inside = first
all-cons P x xs first each (suc k) d inside = each k d (omega (arith, inside))

pub all-map : {X : Type 0} (P Q : X → Type 0) → ((x : X) → P x → Q x) → (xs : List X) → All P xs → All Q xs
all-map P Q f xs each = λ k d inside. f (get_or xs k d) (each k d inside)

-- ---- The null device

pub null-device : List ℕ
null-device = codes "/dev/null"

pub null-is : (output : List ℕ) → is_null output ≡ true → output ≡ null-device
unfolding null-device
null-is output is = (bytes_eq-Decides output (codes "/dev/null")).0 is

null-same : is_null null-device ≡ true
unfolding null-device
null-same = (bytes_eq-Decides (codes "/dev/null") (codes "/dev/null")).1 refl

not-both : false ≡ true → ⊥
not-both e = let wrong : true ≡ false = sym e in absurd cc

-- what holds of each OUT that is compared holds of the OUT of each line
module _ (P : List ℕ → Type 0) where
  step : (seen null : Bool) (line : SplitLine) (lines : List SplitLine) → is_null line.output.now ≡ null
      → All (λ output. P output.now) ((if seen && null then [] else line.output ∷ []) ++ own_outputs (seen || null) lines) → (seen ≡ true → P null-device)
      → P line.output.now × All (λ output. P output.now) (own_outputs (seen || null) lines) × ((seen || null) ≡ true → P null-device)
  step true true line lines is each was = (subst P (sym (null-is line.output.now is)) (was refl), each, λ e. was refl)
  step true false line lines is each was =
      (all-head (λ output. P output.now) line.output (own_outputs true lines) each, all-tail (λ output. P output.now) line.output (own_outputs true lines) each, λ e. was refl)
  step false true line lines is each was =
      let here = all-head (λ output. P output.now) line.output (own_outputs true lines) each in
      (here, all-tail (λ output. P output.now) line.output (own_outputs true lines) each, λ e. subst P (null-is line.output.now is) here)
  step false false line lines is each was =
      (all-head (λ output. P output.now) line.output (own_outputs false lines) each, all-tail (λ output. P output.now) line.output (own_outputs false lines) each, λ e. absurd (not-both e))

  pub each-line : (seen : Bool) (lines : List SplitLine) → All (λ output. P output.now) (own_outputs seen lines) → (seen ≡ true → P null-device) → All (λ line. P line.output.now) lines
  each-line seen [] each was = all-none (λ line. P line.output.now)
  each-line seen (line ∷ lines) each was =
      let s = step seen (is_null line.output.now) line lines refl each was in
      all-cons (λ (l : SplitLine). P l.output.now) line lines s.0 (each-line (seen || is_null line.output.now) lines s.1 s.2)

-- ---- Each line has a file of its own, or the null device

module _ (place : Places) where
  abbrev IsApartFrom : SplitLine → SplitLine → Type 0
  IsApartFrom line later = ((is_null line.output.now ≡ true) × (is_null later.output.now ≡ true)) ⊎ (place later.output.now ≢ place line.output.now)

  -- no OUT is the null device's file
  abbrev AreNoNull : Bool → List SplitLine → Type 0
  AreNoNull seen lines = seen ≡ true → All (λ output. place output.now ≢ place null-device) (own_outputs seen lines)

  -- later lines than one with the null device
  behind-null : (line : SplitLine) (lines : List SplitLine) → is_null line.output.now ≡ true → All (λ output. place output.now ≢ place null-device) (own_outputs true lines)
      → All (IsApartFrom line) lines
  behind-null line lines is each =
      let P : List ℕ → Type 0 = λ output. (is_null output ≡ true) ⊎ (place output ≢ place null-device) in
      let here = each-line P true lines (all-map (λ output. place output.now ≢ place null-device) (λ output. P output.now) (λ output other. inr other) (own_outputs true lines) each)
      (λ e. inl null-same) in
      all-map (λ later. P later.output.now) (IsApartFrom line) (λ later is-so. apart later is-so) lines here
    where
      apart : (later : SplitLine) → (is_null later.output.now ≡ true) ⊎ (place later.output.now ≢ place null-device) → IsApartFrom line later
      apart later (inl null) = inl (is, null)
      apart later (inr other) = inr (λ same. other (same ∙ ap place (null-is line.output.now is)))

  next : (seen null : Bool) (line : SplitLine) (lines : List SplitLine) → is_null line.output.now ≡ null
      → HaveOwnPlaces place ((if seen && null then [] else line.output ∷ []) ++ own_outputs (seen || null) lines)
      → (seen ≡ true → All (λ output. place output.now ≢ place null-device) ((if seen && null then [] else line.output ∷ []) ++ own_outputs (seen || null) lines))
      → All (IsApartFrom line) lines × HaveOwnPlaces place (own_outputs (seen || null) lines) × AreNoNull (seen || null) lines
  next true true line lines is own was = (behind-null line lines is (was refl), own, λ e. was refl)
  next true false line lines is own was =
      let P : List ℕ → Type 0 = λ output. place output ≢ place line.output.now in
      let none = was refl in
      let head = all-head (λ output. place output.now ≢ place null-device) line.output (own_outputs true lines) none in
      let here = each-line P true lines own.0 (λ e same. head (sym same)) in
      (all-map (λ later. P later.output.now) (IsApartFrom line) (λ later other. inr other) lines here, own.1, λ e. all-tail (λ output. place output.now ≢ place null-device) line.output (own_outputs true lines) none)
  next false true line lines is own was =
      let same : place line.output.now ≡ place null-device = ap place (null-is line.output.now is) in
      let none = all-map (λ output. place output.now ≢ place line.output.now) (λ output. place output.now ≢ place null-device) (λ output other eq. other (eq ∙ sym same)) (own_outputs true lines) own.0 in
      (behind-null line lines is none, own.1, λ e. none)
  next false false line lines is own was =
      let P : List ℕ → Type 0 = λ output. place output ≢ place line.output.now in
      let here = each-line P false lines own.0 (λ e. absurd (not-both e)) in
      (all-map (λ later. P later.output.now) (IsApartFrom line) (λ later other. inr other) lines here, own.1, λ e. absurd (not-both e))

  own-files : (seen : Bool) (lines : List SplitLine) → HaveOwnPlaces place (own_outputs seen lines) → AreNoNull seen lines → HaveOwnFiles place lines
  own-files seen [] own was = tt
  own-files seen (line ∷ lines) own was =
      let n = next seen (is_null line.output.now) line lines refl own was in
      (n.0, own-files (seen || is_null line.output.now) lines n.1 n.2)

  pub have-own-files : (lines : List SplitLine) → HaveOwnPlaces place (own_outputs false lines) → HaveOwnFiles place lines
  have-own-files lines own = own-files false lines own (λ e. absurd (not-both e))

-- ---- The lists of the call that compares

pub apart-lines : (place : Places) (read all outs : List (Bor (List ℕ))) (lines : List SplitLine) → read ≡ all → outs ≡ own_outputs false lines
    → All (λ output. All (λ path. place path.now ≢ place output.now) read) outs → All (λ line. All (λ path. place path.now ≢ place line.output.now) all) lines
apart-lines place read all outs lines reads are apart =
    each-line (λ output. All (λ path. place path.now ≢ place output) all) false lines
    (subst (λ os. All (λ output. All (λ path. place path.now ≢ place output.now) all) os) are (subst (λ rs. All (λ output. All (λ path. place path.now ≢ place output.now) rs) outs) reads apart))
    (λ e. absurd (not-both e))

pub own-lines : (place : Places) (outs : List (Bor (List ℕ))) (lines : List SplitLine) → outs ≡ own_outputs false lines → HaveOwnPlaces place outs → HaveOwnFiles place lines
own-lines place outs lines are own = have-own-files place lines (subst (λ os. HaveOwnPlaces place os) are own)

pub unprinted-lines : (place : Places) (printed : Option (List ℕ)) (read all outs : List (Bor (List ℕ))) (lines : List SplitLine) → read ≡ all → outs ≡ own_outputs false lines
    → All (λ path. printed ≢ Some (place path.now)) read → All (λ output. printed ≢ Some (place output.now)) outs
    → All (λ path. printed ≢ Some (place path.now)) all × All (λ line. printed ≢ Some (place line.output.now)) lines
unprinted-lines place printed read all outs lines reads are unread unshared = (
  subst (λ rs. All (λ path. printed ≢ Some (place path.now)) rs) reads unread,
  each-line (λ output. printed ≢ Some (place output)) false lines (subst (λ os. All (λ output. printed ≢ Some (place output.now)) os) are unshared) (λ e. absurd (not-both e)),
)
