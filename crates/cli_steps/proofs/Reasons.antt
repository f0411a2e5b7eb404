-- What is read of the files, and why it is not.
use Rattle.std.proofs.Common.{◌≡◌, ◌≢◌, All, ℕ, zero, suc, ◌<◌, ◌≤◌, inl, inr, List, [], ◌∷◌, Bool, MatchOption, Option, Some, None, length, take, map, slice_index_or, refl, sym, ◌∙◌, ap, subst, arith, length-take}
use Rattle.std.specs.List.{Any}
use Rattle.std.specs.Borrow.{Bor}
use Rattle.std.specs.declared.io.Error.{Error}
use Rattle.cli_files.specs.declared.paths.Opening.TheVariants.{First}
use Rattle.cli_store.specs.Files.{IsApart, IsUnprinted, Places, Texts}
use Rattle.cli_args.specs.declared.steps.StepsWords.{StepsWords}
use Rattle.cli_steps.specs.declared.outcome.StepsRefusal.{StepsRefusal}
use Rattle.cli_steps.specs.declared.outcome.StepsRefusal.TheVariants as refusal
use Rattle.line_text.specs.Files.{IsFileOf}
use Rattle.tap_text.specs.Listeners.{AreFirstOf}
use Rattle.tap_text.specs.Script.{IsStepLine}
use Rattle.cli_steps.specs.declared.outcome.StepsInput.{StepsInput}
use Rattle.cli_steps.specs.FromFiles.{AreCapturesRead, AreUnread, ArePathsApart, ArePathsRefused, IsDenied, IsInput, IsReason, IsTextAt, IsUnread, IsCaptureUnread, drawn_paths, read_paths}

-- the first bytes of a text that are fewer than could be taken are all of it
take_short : (n : ℕ) (xs : List ℕ) → length (take n xs) < n → take n xs ≡ xs
take_short zero xs short = absurd (omega (arith, short))
take_short (suc n) [] short = refl
take_short (suc n) (x ∷ xs) short = ap (λ (ys : List ℕ). x ∷ ys) (take_short n xs (omega (arith, short)))

-- a text of which more than m bytes could be taken has more, and one of which at most m of m + 1 could be taken is whole
pub long_front : (m n : ℕ) (text whole : List ℕ) → text ≡ take n whole → m < length text → m < length whole
long_front m n text whole front long = omega (arith, length-take n whole, ap length front, long)

pub short_front : (m : ℕ) (text whole : List ℕ) → text ≡ take (suc m) whole → length text ≤ m → whole ≡ text
short_front m text whole front short =
    sym (front ∙ take_short (suc m) whole (omega (arith, ap length front, short)))

-- ---- Why nothing was played

later : {X : Type 0} (P : X → Type 0) (x : X) (xs : List X) → Any P xs → Any P (x ∷ xs)
later P x xs a = (suc a.0, a.1, omega (arith, a.2), a.3, a.4)

first : {X : Type 0} (P : X → Type 0) (x : X) (xs : List X) → P x → Any P (x ∷ xs)
first P x xs is = (zero, x, omega arith, refl, is)

-- a text that was read later was there before
pub before : (place-old place-mid : Places) (old mid : Texts) (path text : List ℕ) → place-mid ≡ place-old → mid ≡ old → IsTextAt place-mid mid path text → IsTextAt place-old old path text
before place-old place-mid old mid path text places texts read =
    subst (λ (m : Texts). m (place-old path) ≡ Some text) texts (subst (λ (pl : Places). mid (pl path) ≡ Some text) places read)

-- the path that is named is this one
denied_here : (place : Places) (failed : Bool) (denied : Option (List ℕ)) (named path : List ℕ) (error : Error) → named ≡ path → IsDenied place failed denied path error → IsDenied place failed denied named error
denied_here place failed denied named path error same why = subst (λ (p : List ℕ). IsDenied place failed denied p error) (sym same) why

unread_before : (place-old place-mid : Places) (old mid : Texts) (failed : Bool) (denied : Option (List ℕ)) (path : List ℕ) (r : StepsRefusal) → place-mid ≡ place-old → mid ≡ old →
    IsUnread place-mid mid failed denied path r → IsUnread place-old old failed denied path r
unread_before place-old place-mid old mid failed denied path r places texts is =
    subst (λ (m : Texts). IsUnread place-old m failed denied path r) texts (subst (λ (pl : Places). IsUnread pl mid failed denied path r) places is)

pub listeners_unread : (place : Places) (text : Texts) (printed : Option (List ℕ)) (failed : Bool) (denied : Option (List ℕ)) (words : StepsWords) (r : StepsRefusal) →
    IsUnread place text failed denied words.listeners.now r → IsReason place text printed failed denied words r
listeners_unread place text printed failed denied words (refusal.TextTooLong long) (same, (whole, is, more)) =
    (inl same, (whole, subst (λ (p : List ℕ). text (place p) ≡ Some whole) (sym same) is, more))
listeners_unread place text printed failed denied words (refusal.File unread error) (same, why) =
    (first (λ path. path.now ≡ unread.now) words.listeners (words.script ∷ words.inputs.items) (sym same), denied_here place failed denied unread.now words.listeners.now error same why)
listeners_unread place text printed failed denied words (refusal.Line listeners script fault) is = absurd is
listeners_unread place text printed failed denied words refusal.TooMany is = absurd is
listeners_unread place text printed failed denied words (refusal.Paths fault) is = absurd is
listeners_unread place text printed failed denied words refusal.NoMemory is = absurd is

script_here : (place : Places) (text : Texts) (printed : Option (List ℕ)) (failed : Bool) (denied : Option (List ℕ)) (words : StepsWords) (r : StepsRefusal) →
    IsUnread place text failed denied words.script.now r → IsReason place text printed failed denied words r
script_here place text printed failed denied words (refusal.TextTooLong long) (same, (whole, is, more)) =
    (inr same, (whole, subst (λ (p : List ℕ). text (place p) ≡ Some whole) (sym same) is, more))
script_here place text printed failed denied words (refusal.File unread error) (same, why) = (
  later (λ path. path.now ≡ unread.now) words.listeners (words.script ∷ words.inputs.items)
      (first (λ path. path.now ≡ unread.now) words.script words.inputs.items (sym same)),
  denied_here place failed denied unread.now words.script.now error same why,
)
script_here place text printed failed denied words (refusal.Line listeners script fault) is = absurd is
script_here place text printed failed denied words refusal.TooMany is = absurd is
script_here place text printed failed denied words (refusal.Paths fault) is = absurd is
script_here place text printed failed denied words refusal.NoMemory is = absurd is

pub script_unread : (place-old place-mid : Places) (old mid : Texts) (printed : Option (List ℕ)) (failed : Bool) (denied : Option (List ℕ)) (words : StepsWords) (r : StepsRefusal) → place-mid ≡ place-old → mid ≡ old →
    IsUnread place-mid mid failed denied words.script.now r → IsReason place-old old printed failed denied words r
script_unread place-old place-mid old mid printed failed denied words r places texts is =
    script_here place-old old printed failed denied words r (unread_before place-old place-mid old mid failed denied words.script.now r places texts is)

captures_here : (place : Places) (text : Texts) (printed : Option (List ℕ)) (failed : Bool) (denied : Option (List ℕ)) (words : StepsWords) (r : StepsRefusal) →
    AreUnread place failed denied words.inputs.items r → IsReason place text printed failed denied words r
captures_here place text printed failed denied words (refusal.File unread error) (among, why) = (
  later (λ path. path.now ≡ unread.now) words.listeners (words.script ∷ words.inputs.items)
      (later (λ path. path.now ≡ unread.now) words.script words.inputs.items among),
  why,
)
captures_here place text printed failed denied words refusal.NoMemory is = tt
captures_here place text printed failed denied words (refusal.TextTooLong long) is = absurd is
captures_here place text printed failed denied words (refusal.Line listeners script fault) is = absurd is
captures_here place text printed failed denied words refusal.TooMany is = absurd is
captures_here place text printed failed denied words (refusal.Paths fault) is = absurd is

pub captures_unread : (place-old place-mid : Places) (text : Texts) (printed : Option (List ℕ)) (failed : Bool) (denied : Option (List ℕ)) (words : StepsWords) (r : StepsRefusal) → place-mid ≡ place-old →
    AreUnread place-mid failed denied words.inputs.items r → IsReason place-old text printed failed denied words r
captures_unread place-old place-mid text printed failed denied words r places is =
    captures_here place-old text printed failed denied words r (subst (λ (pl : Places). AreUnread pl failed denied words.inputs.items r) places is)

paths_here : (place : Places) (text : Texts) (printed : Option (List ℕ)) (failed : Bool) (denied : Option (List ℕ)) (words : StepsWords) (r : StepsRefusal) →
    ArePathsRefused place printed failed words r → IsReason place text printed failed denied words r
paths_here place text printed failed denied words (refusal.Paths fault) is = is
paths_here place text printed failed denied words refusal.TooMany is = is
paths_here place text printed failed denied words refusal.NoMemory is = tt
paths_here place text printed failed denied words (refusal.TextTooLong long) is = absurd is
paths_here place text printed failed denied words (refusal.Line listeners script fault) is = absurd is
paths_here place text printed failed denied words (refusal.File unread error) is = absurd is

pub paths_refused : (place-old place-mid : Places) (text : Texts) (printed-old printed-mid : Option (List ℕ)) (failed : Bool) (denied : Option (List ℕ)) (words : StepsWords) (r : StepsRefusal) →
    place-mid ≡ place-old → printed-mid ≡ printed-old → ArePathsRefused place-mid printed-mid failed words r → IsReason place-old text printed-old failed denied words r
paths_refused place-old place-mid text printed-old printed-mid failed denied words r places prints is =
    paths_here place-old text printed-old failed denied words r
    (subst (λ (at : Option (List ℕ)). ArePathsRefused place-old at failed words r) prints (subst (λ (pl : Places). ArePathsRefused pl printed-mid failed words r) places is))

-- the path of the picture as a list
pub drawn_is : (picture : Option (Bor (List ℕ))) (found : List (Bor (List ℕ))) → MatchOption picture (found ≡ []) (λ path. found ≡ path ∷ []) → found ≡ drawn_paths picture
drawn_is None found is = is
drawn_is (Some path) found is = is

-- no file is lost, by the lists of paths that were compared
pub apart_paths : (place : Places) (text : Texts) (printed : Option (List ℕ)) (words : StepsWords) (read drawn : List (Bor (List ℕ))) → read ≡ read_paths words → drawn ≡ drawn_paths words.picture →
    All (λ output. All (λ path. IsApart First place text output.now path.now) read) drawn → All (λ path. IsUnprinted First place text printed path.now) read →
    All (λ output. printed ≢ Some (place output.now)) drawn → ArePathsApart place text printed words
apart_paths place text printed words read drawn reads draws apart unprinted unshared = (
  subst (λ (d : List (Bor (List ℕ))). All (λ output. All (λ path. IsApart First place text output.now path.now) (read_paths words)) d) draws
      (subst (λ (r : List (Bor (List ℕ))). All (λ output. All (λ path. IsApart First place text output.now path.now) r) drawn) reads apart),
  subst (λ (r : List (Bor (List ℕ))). All (λ path. IsUnprinted First place text printed path.now) r) reads unprinted,
  subst (λ (d : List (Bor (List ℕ))). All (λ output. printed ≢ Some (place output.now)) d) draws unshared,
)

again : {X : Type 0} (xs : List X) (k : ℕ) (d : X) → slice_index_or xs k (slice_index_or xs k d) ≡ slice_index_or xs k d
again [] k d = refl
again (x ∷ xs) zero d = refl
again (x ∷ xs) (suc k) d = again xs k d

-- a capture among these was not read
pub capture_unread : (place-old place-mid : Places) (failed : Bool) (denied : Option (List ℕ)) (paths : List (Bor (List ℕ))) (k : ℕ) (d : Bor (List ℕ)) (r : StepsRefusal) → place-mid ≡ place-old → k < length paths →
    IsCaptureUnread place-mid failed denied (slice_index_or paths k d).now r → AreUnread place-old failed denied paths r
capture_unread place-old place-mid failed denied paths k d (refusal.File unread error) places within (same, why) = (
  (k, slice_index_or paths k d, within, again paths k d, sym same),
  subst (λ (pl : Places). IsDenied pl failed denied unread.now error) places (denied_here place-mid failed denied unread.now (slice_index_or paths k d).now error same why),
)
capture_unread place-old place-mid failed denied paths k d (refusal.TextTooLong long) places within is = absurd is
capture_unread place-old place-mid failed denied paths k d (refusal.Line listeners script fault) places within is = absurd is
capture_unread place-old place-mid failed denied paths k d refusal.TooMany places within is = absurd is
capture_unread place-old place-mid failed denied paths k d (refusal.Paths fault) places within is = absurd is
capture_unread place-old place-mid failed denied paths k d refusal.NoMemory places within is = absurd is

-- what was read is what was asked for
pub input_of : (place-old place-1 place-2 place-3 : Places) (old mid-1 mid-2 mid-3 : Texts) (printed-old printed-2 : Option (List ℕ)) (words : StepsWords) (input : StepsInput) (listeners script : List ℕ) (paths : List (Bor (List ℕ))) →
    place-1 ≡ place-old → mid-1 ≡ old → place-2 ≡ place-old → mid-2 ≡ old → printed-2 ≡ printed-old → place-3 ≡ place-old → mid-3 ≡ old →
    listeners ≡ input.listeners.items → script ≡ input.script.items → paths ≡ words.inputs.items →
    IsTextAt place-old old words.listeners.now input.listeners.items → IsTextAt place-1 mid-1 words.script.now input.script.items → AreCapturesRead place-3 mid-3 paths (map (λ c. c.items) input.captures.items) →
    AreFirstOf listeners input.plan.specs.items → IsFileOf IsStepLine script input.plan.steps.items → ArePathsApart place-2 mid-2 printed-2 words → IsInput place-old old printed-old words input
input_of place-old place-1 place-2 place-3 old mid-1 mid-2 mid-3 printed-old printed-2 words input listeners script paths p1 m1 p2 m2 q2 p3 m3 l s ps has_listeners has_script has_captures of_listeners of_script apart = record {
  has_listeners = has_listeners;
  has_script = before place-old place-1 old mid-1 words.script.now input.script.items p1 m1 has_script;
  has_captures = subst (λ (xs : List (Bor (List ℕ))). AreCapturesRead place-old old xs (map (λ c. c.items) input.captures.items)) ps
      (subst (λ (m : Texts). AreCapturesRead place-old m paths (map (λ c. c.items) input.captures.items)) m3 (subst (λ (pl : Places). AreCapturesRead pl mid-3 paths (map (λ c. c.items) input.captures.items)) p3 has_captures));
  of_listeners = subst (λ (t : List ℕ). AreFirstOf t input.plan.specs.items) l of_listeners;
  of_script = subst (λ (t : List ℕ). IsFileOf IsStepLine t input.plan.steps.items) s of_script;
  apart = subst (λ (q : Option (List ℕ)). ArePathsApart place-old old q words) q2
      (subst (λ (m : Texts). ArePathsApart place-old m printed-2 words) m2 (subst (λ (pl : Places). ArePathsApart pl mid-2 printed-2 words) p2 apart));
}
