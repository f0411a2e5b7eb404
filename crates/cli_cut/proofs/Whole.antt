-- The outcome of the steps of a cut.
use Rattle.std.proofs.Common.{◌≡◌, ◌≢◌, ℕ, ◌≤◌, ◌<◌, ◌∷◌, zero, suc, List, [], length, take, length-take, ◌∙◌, sym, ap, subst, refl, Option, Some, None, option_copied, unwrap_or, Result, Ok, Err, IfOk, Bool, true, false, inl, inr, arith, ◌⊎◌, Bor}
use Rattle.std.proofs.lemmas.Bool.{false≢true}
use Rattle.std.specs.List.{Any}
use Rattle.std.specs.declared.io.Error.{Error}
use Rattle.bpfvm.specs.declared.insn.Insn.{Insn}
use Rattle.cli_args.specs.declared.cut.CutWords.{CutWords}
use Rattle.cli_files.specs.declared.paths.PathFault.{PathFault}
use Rattle.cli_files.specs.declared.paths.PathFault.TheVariants as paths
use Rattle.cli_files.specs.declared.paths.Opening.TheVariants.{First}
use Rattle.cli_store.specs.Files.{IsApart, IsLost, IsRefusal, NamesDenied, Places, Texts}
use Rattle.cli_cut.specs.Cutting.{CutsFiles, CutsInto, Ends, IsDenied, IsGiven, IsReason, IsShared, IsUncompared, IsUngiven, IsUnmade, SparesListing}
use Rattle.cli_cut.specs.declared.outcome.CutReport.{CutReport}
use Rattle.cli_cut.specs.declared.outcome.CutOutcome.TheVariants.{Ended, Refused}
use Rattle.cli_cut.specs.declared.outcome.Refusal.{Refusal}
use Rattle.cli_cut.specs.declared.outcome.Refusal.TheVariants as refusal

-- ---- Short lists

only_any : {X : Type 0} (P : X → Type 0) (x : X) → Any P (x ∷ []) → P x
only_any P x (zero, y, within, is, holds) = subst P (sym is) holds
only_any P x (suc k, y, within, is, holds) = absurd (omega (arith, within))

any_only : {X : Type 0} (P : X → Type 0) (x : X) → P x → Any P (x ∷ [])
any_only P x holds = (0, x, omega arith, refl, holds)

any_two : {X : Type 0} (P : X → Type 0) (x y : X) → Any P (x ∷ y ∷ []) → P x ⊎ P y
any_two P x y (zero, z, within, is, holds) = inl (subst P (sym is) holds)
any_two P x y (suc zero, z, within, is, holds) = inr (subst P (sym is) holds)
any_two P x y (suc (suc k), z, within, is, holds) = absurd (omega (arith, within))

-- ---- Texts that are read

-- the first bytes of a text that are fewer than could be taken are all of it
take_short : (n : ℕ) (xs : List ℕ) → length (take n xs) < n → take n xs ≡ xs
take_short zero xs short = absurd (omega (arith, short))
take_short (suc n) [] short = refl
take_short (suc n) (x ∷ xs) short = ap (λ (ys : List ℕ). x ∷ ys) (take_short n xs (omega (arith, short)))

-- a text of which more than m bytes could be taken has more, and one of which at most m of m + 1 could be taken is whole
pub long_front : (m n : ℕ) (text whole : List ℕ) → text ≡ take n whole → m < length text → m < length whole
long_front m n text whole front long = omega (arith, length-take n whole, ap length front, long)

pub short_front : (m : ℕ) (text whole : List ℕ) → text ≡ take (suc m) whole → length text ≤ m → whole ≡ text
short_front m text whole front short =
    sym (front ∙ take_short (suc m) whole (omega (arith, ap length front, short)))

-- what was kept is what was before
cut_files : (place-old place-mid : Places) (old mid new : Texts) (failed : Bool) (denied : Option (List ℕ)) (words : CutWords) (input : Bor (List ℕ)) (report : CutReport) (program : List Insn) (text : List ℕ) →
    place-mid ≡ place-old → mid ≡ old → ((p : List ℕ) → p ≢ place-mid words.output.now → new p ≡ mid p) →
    IsGiven place-old old (option_copied words.listing) (option_copied words.expr) words.snap program →
    place-old input.now ≢ place-old words.output.now → SparesListing place-old words → old (place-old input.now) ≡ Some text →
    Ends mid new failed (place-mid words.output.now) text program words.snap words.order words.«unit» report.tally report.end →
    CutsFiles place-old old new failed denied words input (Ended report)
cut_files place-old place-mid old mid new failed denied words input report program text places texts others given apart spares read ends =
    let out = words.output.now in
    let others-here : ((p : List ℕ) → p ≢ place-old out → new p ≡ old p) =
    subst (λ (pl : Places). (p : List ℕ) → p ≢ pl out → new p ≡ old p) places (subst (λ (m : Texts). (p : List ℕ) → p ≢ place-mid out → new p ≡ m p) texts others) in
    let ends-here : Ends old new failed (place-old out) text program words.snap words.order words.«unit» report.tally report.end =
    subst (λ (pl : Places). Ends old new failed (pl out) text program words.snap words.order words.«unit» report.tally report.end) places
    (subst (λ (m : Texts). Ends m new failed (place-mid out) text program words.snap words.order words.«unit» report.tally report.end) texts ends) in
    record { others = others-here; came_to = record { program = program; given = given; apart = apart; spares = spares; text = text; read = read; ends = ends-here } }

pub cut_files_if : (place-old place-mid : Places) (old mid new : Texts) (failed : Bool) (denied : Option (List ℕ)) (words : CutWords) (input : Bor (List ℕ)) (result : Result CutReport Refusal) (program : List Insn) (text : List ℕ) →
    place-mid ≡ place-old → mid ≡ old → ((p : List ℕ) → p ≢ place-mid words.output.now → new p ≡ mid p) →
    IsGiven place-old old (option_copied words.listing) (option_copied words.expr) words.snap program →
    place-old input.now ≢ place-old words.output.now → SparesListing place-old words → old (place-old input.now) ≡ Some text →
    IfOk result (λ report. Ends mid new failed (place-mid words.output.now) text program words.snap words.order words.«unit» report.tally report.end) →
    IfOk result (λ report. CutsFiles place-old old new failed denied words input (Ended report))
cut_files_if place-old place-mid old mid new failed denied words input (Ok report) program text places texts others given apart spares read ends =
    cut_files place-old place-mid old mid new failed denied words input report program text places texts others given apart spares read ends
cut_files_if place-old place-mid old mid new failed denied words input (Err reason) program text places texts others given apart spares read ends = tt

module _ (place : Places) (old : Texts) (failed : Bool) (denied : Option (List ℕ)) (words : CutWords) (inputs : List (Bor (List ℕ))) where
  abbrev Reason : Refusal → Type 0
  Reason = IsReason place old failed denied words inputs

  pub ungiven_reason : (r : Refusal) → IsUngiven place old denied (option_copied words.listing) (option_copied words.expr) words.snap r → Reason r
  ungiven_reason (refusal.Filter kept fault) is = is
  ungiven_reason (refusal.TextTooLong path) is = is
  ungiven_reason (refusal.File path error) is = (inl (inr is.0), is.1)
  ungiven_reason (refusal.Paths fault) is = absurd is
  ungiven_reason refusal.NoMemory is = absurd is

  pub uncompared_reason : (r : Refusal) → IsUncompared place failed denied words inputs r → Reason r
  uncompared_reason (refusal.Paths fault) is = is
  uncompared_reason refusal.NoMemory is = is
  uncompared_reason (refusal.Filter kept fault) is = absurd is
  uncompared_reason (refusal.TextTooLong path) is = absurd is
  uncompared_reason (refusal.File path error) is = absurd is

  pub unmade_reason : (r : Refusal) → IsUnmade place denied words r → Reason r
  unmade_reason (refusal.File path error) is = (inr is.0, is.1)
  unmade_reason (refusal.Paths fault) is = absurd is
  unmade_reason refusal.NoMemory is = is
  unmade_reason (refusal.Filter kept fault) is = absurd is
  unmade_reason (refusal.TextTooLong path) is = absurd is

-- nothing was done, for a reason
refused : (place : Places) (old new : Texts) (failed : Bool) (denied : Option (List ℕ)) (words : CutWords) (input : Bor (List ℕ)) (r : Refusal) →
    new ≡ old → IsReason place old failed denied words (input ∷ []) r → CutsFiles place old new failed denied words input (Refused r)
refused place old new failed denied words input r texts is =
    let same : (p : List ℕ) → new p ≡ old p = λ p. ap (λ (t : Texts). t p) texts in
    record { others = λ p other. same p; came_to = (is, same) }

pub ungiven : (place : Places) (old new : Texts) (failed : Bool) (denied : Option (List ℕ)) (words : CutWords) (input : Bor (List ℕ)) (r : Refusal) →
    new ≡ old → IsUngiven place old denied (option_copied words.listing) (option_copied words.expr) words.snap r → CutsFiles place old new failed denied words input (Refused r)
ungiven place old new failed denied words input r texts is =
    refused place old new failed denied words input r texts (ungiven_reason place old failed denied words (input ∷ []) r is)

pub shared : (place-old place-mid : Places) (old new : Texts) (failed : Bool) (denied : Option (List ℕ)) (words : CutWords) (input : Bor (List ℕ)) (r : Refusal) →
    place-mid ≡ place-old → new ≡ old → IsUncompared place-mid failed denied words (input ∷ []) r → CutsFiles place-old old new failed denied words input (Refused r)
shared place-old place-mid old new failed denied words input r places texts is =
    refused place-old old new failed denied words input r texts
    (uncompared_reason place-old old failed denied words (input ∷ []) r (subst (λ (pl : Places). IsUncompared pl failed denied words (input ∷ []) r) places is))

pub unmade : (place-old place-mid : Places) (old new : Texts) (failed : Bool) (denied : Option (List ℕ)) (words : CutWords) (input : Bor (List ℕ)) (r : Refusal) →
    place-mid ≡ place-old → new ≡ old → IsUnmade place-mid denied words r → CutsFiles place-old old new failed denied words input (Refused r)
unmade place-old place-mid old new failed denied words input r places texts is =
    refused place-old old new failed denied words input r texts
    (unmade_reason place-old old failed denied words (input ∷ []) r (subst (λ (pl : Places). IsUnmade pl denied words r) places is))

-- IN could not be opened
pub unopened : (place-old place-mid : Places) (old new : Texts) (failed : Bool) (denied : Option (List ℕ)) (words : CutWords) (input : Bor (List ℕ)) (error : Error) →
    place-mid ≡ place-old → new ≡ old → IsDenied place-mid denied input.now error → CutsFiles place-old old new failed denied words input (Refused (refusal.File input error))
unopened place-old place-mid old new failed denied words input error places texts is =
    refused place-old old new failed denied words input (refusal.File input error) texts (
      inl (inl (any_only (λ (i : Bor (List ℕ)). i.now ≡ input.now) input refl)),
      subst (λ (pl : Places). IsDenied pl denied input.now error) places is,
    )

-- ---- The paths

-- why the only OUT is lost, where nothing is printed
pub lost_alone : (place : Places) (printed : Option (List ℕ)) (read : List (Bor (List ℕ))) (output : Bor (List ℕ)) → IsLost place printed false read (output ∷ []) →
    Any (λ path. place path.now ≡ place output.now) read
lost_alone place printed read output (inl is) = only_any (λ o. Any (λ path. place path.now ≡ place o.now) read) output is
lost_alone place printed read output (inr (inl others)) = absurd (others ((λ k d within. absurd (omega (arith, within))), tt))
lost_alone place printed read output (inr (inr prints)) = absurd (false≢true prints.0)

together : (place : Places) (listing : Option (Bor (List ℕ))) (input output : Bor (List ℕ)) → Any (λ path. place path.now ≡ place output.now) (unwrap_or listing input ∷ input ∷ []) →
    Any (λ path. place path.now ≡ place output.now) (input ∷ []) ⊎ ((path : List ℕ) × (option_copied listing ≡ Some path) × (place path ≡ place output.now))
together place None input output any = inl (any_only (λ (path : Bor (List ℕ)). place path.now ≡ place output.now) input
    (elim (any_two (λ (path : Bor (List ℕ)). place path.now ≡ place output.now) input input any) as (λ _. place input.now ≡ place output.now) [ inl one ↦ one | inr other ↦ other ]))
together place (Some l) input output any =
    elim (any_two (λ (path : Bor (List ℕ)). place path.now ≡ place output.now) l input any)
    as (λ _. Any (λ (path : Bor (List ℕ)). place path.now ≡ place output.now) (input ∷ []) ⊎ ((path : List ℕ) × (Some l.now ≡ Some path) × (place path ≡ place output.now))) [
      | inl one ↦ inr (l.now, refl, one)
      | inr other ↦ inl (any_only (λ (path : Bor (List ℕ)). place path.now ≡ place output.now) input other)
    ]

pub shared_one : (place : Places) (printed : Option (List ℕ)) (failed : Bool) (denied : Option (List ℕ)) (words : CutWords) (input : Bor (List ℕ)) (fault : PathFault) →
    IsRefusal place printed failed false (unwrap_or words.listing input ∷ input ∷ []) (words.output ∷ []) fault → NamesDenied place denied fault →
    IsShared place failed denied words (input ∷ []) fault
shared_one place printed failed denied words input (paths.Same path taken_for) is named =
    together place words.listing input words.output (lost_alone place printed (unwrap_or words.listing input ∷ input ∷ []) words.output is)
shared_one place printed failed denied words input (paths.Printed path) is named = absurd (false≢true is.0)
shared_one place printed failed denied words input (paths.Unknown path error) is named = (is, named)
shared_one place printed failed denied words input paths.NoMemory is named = is

-- IN leads elsewhere than OUT, since there is a file
pub apart_of_file : (place-old place-mid : Places) (old mid : Texts) (input output text : List ℕ) →
    place-mid ≡ place-old → mid ≡ old → (mid (place-mid input) ≡ None) ⊎ (place-mid input ≢ place-mid output) → old (place-old input) ≡ Some text → place-old input ≢ place-old output
apart_of_file place-old place-mid old mid input output text places texts (inl none) read =
    let here : old (place-old input) ≡ None = subst (λ (pl : Places). old (pl input) ≡ None) places (subst (λ (m : Texts). m (place-mid input) ≡ None) texts none) in
    absurd (cc)
apart_of_file place-old place-mid old mid input output text places texts (inr apart) read =
    subst (λ (pl : Places). pl input ≢ pl output) places apart

-- so does the listing, from which the program was read
listing_read : (place : Places) (text : Texts) (listing expr : Option (List ℕ)) (snap : ℕ) (program : List Insn) (path : List ℕ) → listing ≡ Some path → IsGiven place text listing expr snap program →
    (whole : List ℕ) × (text (place path) ≡ Some whole)
listing_read place text None expr snap program path is given = absurd (cc)
listing_read place text (Some l) (Some e) snap program path is given = absurd given
listing_read place text (Some l) None snap program path is (whole, read, fits) =
    let same : l ≡ path = cc in
    (whole, subst (λ (p : List ℕ). text (place p) ≡ Some whole) same read)

pub listing_apart : (place : Places) (text : Texts) (listing : Option (Bor (List ℕ))) (input output : Bor (List ℕ)) → IsApart First place text output.now (unwrap_or listing input).now →
    (path : List ℕ) → option_copied listing ≡ Some path → IsApart First place text output.now path
listing_apart place text None input output apart path is = absurd (cc)
listing_apart place text (Some l) input output apart path is =
    let same : l.now ≡ path = cc in
    subst (λ (p : List ℕ). IsApart First place text output.now p) same apart

pub spares_file : (place-old place-mid : Places) (old mid : Texts) (words : CutWords) (program : List Insn) → place-mid ≡ place-old → mid ≡ old →
    ((path : List ℕ) → option_copied words.listing ≡ Some path → IsApart First place-mid mid words.output.now path) →
    IsGiven place-old old (option_copied words.listing) (option_copied words.expr) words.snap program → SparesListing place-old words
spares_file place-old place-mid old mid words program places texts apart given path is =
    let (whole, read) = listing_read place-old old (option_copied words.listing) (option_copied words.expr) words.snap program path is given in
    apart_of_file place-old place-mid old mid path words.output.now whole places texts (apart path is) read

pub read_before : (place-old place-mid : Places) (old mid : Texts) (path text : List ℕ) → place-mid ≡ place-old → mid ≡ old → mid (place-mid path) ≡ Some text → old (place-old path) ≡ Some text
read_before place-old place-mid old mid path text places texts read =
    subst (λ (m : Texts). m (place-old path) ≡ Some text) texts (subst (λ (pl : Places). mid (pl path) ≡ Some text) places read)
