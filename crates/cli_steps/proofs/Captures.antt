-- From what was read of captures to their whole texts.
use Rattle.std.proofs.Common.{◌≡◌, ℕ, zero, suc, ◌+◌, ◌<◌, ◌⊎◌, inl, inr, List, [], ◌∷◌, ◌++◌, Bool, Option, Some, Result, Ok, Err, length, map, slice_index_or, take, drop, refl, sym, ◌∙◌, ap, subst, arith, length-take-le, take_all, take-append-drop}
use Rattle.std.specs.List.{AllZip}
use Rattle.std.specs.Prelude.{Vec}
use Rattle.std.specs.Borrow.{Bor}
use Rattle.std.specs.declared.alloc.Global.{Global}
use Rattle.std.proofs.lemmas.Bool.{cases_lt}
use Rattle.std.proofs.lemmas.List.{map-append, take_more}
use Rattle.std.proofs.lemmas.List.Elements.{AllZip-push, length_all_zip}
use Rattle.savefile.proofs.Pieces.{refused_whole}
use Rattle.savefile.specs.declared.fault.Fault.{Fault as RecordFault}
use Rattle.savefile.specs.Savefile.{RefusesHeader}
use Rattle.tap.specs.declared.fault.Fault.{Fault}
use Rattle.tap.specs.declared.fault.Fault.TheVariants.{TooMany, NoListener, Capture, Expression, Compile, Open, NoMemory}
use Rattle.tap.specs.Refusals.{AreTooMany, IsFirst}
use Rattle.tap_steps.specs.declared.fault.PlaylistFault.TheVariants as unlisted
use Rattle.tap_steps.specs.declared.filters.Spec.{Spec}
use Rattle.tap_steps.specs.declared.step.Step.{Step}
use Rattle.tap_steps.specs.Playlist.{NoHeaderIsRefused, RefusesCapture}
use Rattle.line_text.specs.declared.form.LineForm.{LineForm}
use Rattle.cli_text.specs.declared.status.Status.{Status}
use Rattle.cli_store.specs.Files.{IsCaptureRead, Places, Texts}
use Rattle.cli_steps.specs.declared.steps.Replayed.{Replayed}
use Rattle.cli_steps.specs.Telling.{PrintsPlayed}
use Rattle.cli_steps.specs.FromFiles.{AreCapturesRead}

-- one capture more was read
pub read_more : (place : Places) (text : Texts) (paths : List (Bor (List ℕ))) (k : ℕ) (d : Bor (List ℕ)) (captures : List (Vec ℕ Global)) (whole : List ℕ) (capture : Vec ℕ Global) → k < length paths →
    AreCapturesRead place text (take k paths) (map (λ c. c.items) captures) → text (place (slice_index_or paths k d).now) ≡ Some whole → IsCaptureRead whole capture.items →
    AreCapturesRead place text (take (k + 1) paths) (map (λ c. c.items) (captures ++ capture ∷ []))
read_more place text paths k d captures whole capture within before is read =
    let f : Bor (List ℕ) → Option (List ℕ) = λ path. text (place path.now) in
    let g : Vec ℕ Global → List ℕ = λ c. c.items in (
      before.0 ++ whole ∷ [],
      ap (map f) (take_more paths k d within) ∙ map-append f (take k paths) (slice_index_or paths k d ∷ []) ∙ ap (λ (x : List (Option (List ℕ))). x ++ f (slice_index_or paths k d) ∷ []) before.1
          ∙ ap (λ (x : Option (List ℕ)). map Some before.0 ++ x ∷ []) is ∙ sym (map-append Some before.0 (whole ∷ [])),
      subst (λ (x : List (List ℕ)). AllZip IsCaptureRead (before.0 ++ whole ∷ []) x) (sym (map-append g captures (capture ∷ [])))
          (AllZip-push IsCaptureRead before.0 (map g captures) whole capture.items before.2 read),
    )

-- a file header that is refused by its 24 bytes is refused whatever follows them
refused_front : (whole : List ℕ) (fault : RecordFault) → RefusesHeader (take 24 whole) fault → RefusesHeader whole fault
refused_front whole fault refused = elim (cases_lt (length whole) 24) [
  | inl short ↦ subst (λ (t : List ℕ). RefusesHeader t fault) (take_all 24 whole (omega (arith, short))) refused
  | inr long ↦
      let front = take 24 whole in
      let found = refused_whole front front (Some (drop 24 whole)) fault refl (inl (omega (arith, length-take-le 24 whole long))) refused in
      subst (λ (t : List ℕ). RefusesHeader t fault) (ap (λ (t : List ℕ). front ++ t) (sym found.1) ∙ take-append-drop 24 whole) found.2
]

-- what is refused by what was read is refused by the whole text
refused_read : (whole bytes : List ℕ) (fault : RecordFault) → IsCaptureRead whole bytes → RefusesHeader bytes fault → RefusesHeader whole fault
refused_read whole bytes fault (inl (front, is)) refused = refused_front whole fault (subst (λ (t : List ℕ). RefusesHeader t fault) is refused)
refused_read whole bytes fault (inr (right, is)) refused = subst (λ (t : List ℕ). RefusesHeader t fault) is refused

-- where no header is refused, all was read
whole_read : (whole bytes : List ℕ) → IsCaptureRead whole bytes → ((fault : RecordFault) → RefusesHeader bytes fault → ⊥) → bytes ≡ whole
whole_read whole bytes (inl (front, is)) none = absurd (none front.0 (subst (λ (t : List ℕ). RefusesHeader t front.0) (sym is) front.1))
whole_read whole bytes (inr (right, is)) none = is

all_read : (wholes captures : List (List ℕ)) → AllZip IsCaptureRead wholes captures → NoHeaderIsRefused captures → captures ≡ wholes
all_read [] [] each none = refl
all_read [] (bytes ∷ captures) each none = absurd each
all_read (whole ∷ wholes) [] each none = absurd each
all_read (whole ∷ wholes) (bytes ∷ captures) (one, each) (right, none) =
    ap (λ (t : List ℕ). t ∷ captures) (whole_read whole bytes one right) ∙ ap (λ (ts : List (List ℕ)). whole ∷ ts) (all_read wholes captures each none)

-- the capture that is refused is so by its whole text, and none before it
capture_refused : (wholes captures : List (List ℕ)) (n : ℕ) (fault : RecordFault) → AllZip IsCaptureRead wholes captures → RefusesCapture captures (unlisted.Capture n fault) → RefusesCapture wholes (unlisted.Capture n fault)
capture_refused [] [] n fault each (text, at, refused, before) = absurd cc
capture_refused [] (bytes ∷ captures) n fault each is = absurd each
capture_refused (whole ∷ wholes) [] n fault each is = absurd each
capture_refused (whole ∷ wholes) (bytes ∷ captures) zero fault (one, each) (text, at, refused, before) =
    let same : bytes ≡ text = cc in
    (whole, refl, refused_read whole bytes fault one (subst (λ (t : List ℕ). RefusesHeader t fault) (sym same) refused), tt)
capture_refused (whole ∷ wholes) (bytes ∷ captures) (suc n) fault (one, each) (text, at, refused, (right, before)) =
    let later = capture_refused wholes captures n fault each (text, at, refused, before) in
    (later.0, later.1, later.2, (subst (λ (t : List ℕ). (f : RecordFault) → RefusesHeader t f → ⊥) (whole_read whole bytes one right) right, later.3))

-- the first fault that applies to what was read applies to the whole texts
first_of_whole : (wholes captures : List (List ℕ)) (specs : List Spec) (steps : List Step) (fault : Fault) → AllZip IsCaptureRead wholes captures → IsFirst captures specs steps fault → IsFirst wholes specs steps fault
first_of_whole wholes captures specs steps fault each first = by_fault fault first
  where
    long : length wholes ≡ length captures
    long = length_all_zip IsCaptureRead wholes captures each

    fewer : (AreTooMany captures specs → ⊥) → AreTooMany wholes specs → ⊥
    fewer few many = few (subst (λ (n : ℕ). (64 < length specs) ⊎ (65536 < n)) long many)

    by_fault : (fault : Fault) → IsFirst captures specs steps fault → IsFirst wholes specs steps fault
    by_fault TooMany is = subst (λ (n : ℕ). (64 < length specs) ⊎ (65536 < n)) (sym long) is
    by_fault (NoListener place) is = (fewer is.0, is.1)
    by_fault (Capture n fault) is = (fewer is.0, is.1, capture_refused wholes captures n fault each is.2)
    by_fault (Expression l fault) is = subst (λ (t : List (List ℕ)). IsFirst t specs steps (Expression l fault)) (all_read wholes captures each is.2) is
    by_fault (Compile l fault) is = subst (λ (t : List (List ℕ)). IsFirst t specs steps (Compile l fault)) (all_read wholes captures each is.2) is
    by_fault (Open l fault) is = subst (λ (t : List (List ℕ)). IsFirst t specs steps (Open l fault)) (all_read wholes captures each is.2) is
    by_fault NoMemory is = tt

-- what was played over what was read was played over the whole texts
pub prints_whole : (form : LineForm) (explained traced : Bool) (wholes captures : List (List ℕ)) (specs : List Spec) (steps : List Step) (before after : Option (List ℕ)) (status : Status) (replayed : Result Replayed Fault)
    → AllZip IsCaptureRead wholes captures → PrintsPlayed form explained traced captures specs steps before after status replayed → PrintsPlayed form explained traced wholes specs steps before after status replayed
prints_whole form explained traced wholes captures specs steps before after status (Ok replayed) each p =
    subst (λ (t : List (List ℕ)). PrintsPlayed form explained traced t specs steps before after status (Ok replayed)) (all_read wholes captures each p.plays.1.none_stands.headers) p
prints_whole form explained traced wholes captures specs steps before after status (Err fault) each p = record {
  played = p.played;
  plays = record {
    first = first_of_whole wholes captures specs steps fault each p.plays.first;
    nothing = p.plays.nothing;
    tells = p.plays.tells;
    refused = p.plays.refused;
  };
  ends = p.ends;
}
