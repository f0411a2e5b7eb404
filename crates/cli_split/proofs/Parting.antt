-- What a split whose files are closed comes to.
use Rattle.std.proofs.Common.{◌≡◌, ◌≢◌, ◌⊎◌, inl, inr, ℕ, zero, suc, ◌<◌, ◌≤◌, ◌++◌, Bool, true, false, List, [], ◌∷◌, All, Any, Bor, length, map, refl, sym, ◌∙◌, ap, subst, arith, Option, Some, None, Result, Ok, Err, IfErr, IfOk}
use Rattle.std.specs.List.{AllZip}
use Rattle.savefile.specs.Laws.{WrittenTakesRoom}
use Rattle.savefile.specs.declared.header.Order.{Order}
use Rattle.savefile.specs.declared.header.Unit.{Unit as TimeUnit}
use Rattle.savefile.specs.declared.packet.Packet.{Packet}
use Rattle.cli_args.specs.declared.split.SplitWords.{SplitWords}
use Rattle.cli_filter.proofs.Planned.{zip-length}
use Rattle.cli_store.specs.Files.{Places, Texts, text_at}
use Rattle.cli_split.specs.Closed.{ClosesAll}
use Rattle.cli_split.specs.Lines.{AreSplitLines, IsCompiled}
use Rattle.cli_split.specs.Opened.{HasSpace, IsInput, IsLate, IsMadeOf, IsOutput, IsUnmade, IsUnread}
use Rattle.cli_split.specs.SplitFiles.{AreApart, AreAsked, AreUnprinted, HaveOwnFiles, IsCut, IsDenied, IsReason, IsShared, IsSplit, IsTextOf, SplitsFiles, SplitsInto}
use Rattle.cli_split.specs.Splitting.{Splits, WritesAll, is_begun}
use Rattle.cli_split.specs.Texts.{NotesFailures, ReadsTexts}
use Rattle.cli_split.specs.declared.files.Space.{Space}
use Rattle.cli_split.specs.declared.outcome.Refusal.{Refusal}
use Rattle.cli_split.specs.declared.outcome.SplitOutcome.TheVariants.{Refused}
use Rattle.cli_split.specs.declared.outcome.SplitReport.{SplitReport}
use Rattle.cli_split.specs.declared.outcome.Refusal.TheVariants as refusal
use Rattle.cli_split.specs.declared.part.Part.{Part}
use Rattle.cli_split.specs.declared.part.PartEnd.{PartEnd}
use Rattle.cli_split.specs.declared.plan.SplitLine.{SplitLine}
use Rattle.cli_split.specs.declared.split.SplitEnd.{SplitEnd}
use Rattle.cli_split.specs.declared.split.Stop.{Stop}
use Rattle.cli_split.proofs.Closings.{all-cut, all-others}
use Rattle.cli_split.proofs.OwnFiles.{all-cons, all-head, all-map, all-none, all-tail}
use Rattle.cli_split.proofs.Texts.{ends-parts, gives-mapped, reads-texts}

-- as many parts come back as there were
pub as-many-parts : {W : Type 0} (taken : W → Option (List ℕ)) (name : W → List ℕ) (failures : W → ℕ) (order : Order) (unit : TimeUnit) (packets : List Packet) (begun : Bool) (parts : List (Part W)) (ends : List (PartEnd W))
    → WritesAll taken name failures order unit packets begun parts ends → length parts ≡ length ends
as-many-parts taken name failures order unit packets begun parts ends writes =
    zip-length _ parts ends (ends-parts taken name failures order unit packets begun parts ends writes)

begun-same : {X Y : Type 0} (R : X → Y → Type 0) (xs : List X) (ys : List Y) (end : Result (Unit {0}) Stop) → AllZip R xs ys → is_begun ys end ≡ is_begun xs end
begun-same R [] [] end each = refl
begun-same R [] (y ∷ ys) end each = absurd each
begun-same R (x ∷ xs) [] end each = absurd each
begun-same R (x ∷ xs) (y ∷ ys) end each = refl

module _ {R W X Y : Type 0} (left : R → Option (List ℕ)) (broken : R → ℕ) (taken : W → Option (List ℕ)) (name : W → List ℕ) (failures : W → ℕ) (place : Places) (old new : Texts) (failed : Bool)
    (words : SplitWords) (lines : List SplitLine) (captures : List R) (parts : List (Part W)) (end : SplitEnd R W) (ended : SplitEnd Y X) where
  pub is-split : Splits left broken taken name failures captures parts words.order words.«unit» end → AllZip (IsLate left broken place old) words.inputs.items captures
      → AllZip (IsMadeOf taken name failures place IsCompiled) lines parts → NotesFailures broken failed end.sources.items
      → ClosesAll taken name failures failed old new end.parts.items ended.parts.items → ended.end ≡ end.end → HaveOwnFiles place lines → WrittenTakesRoom
      → IsSplit place old new failed words lines ended
  is-split s late made noted closes same own room =
      let begun = is_begun captures end.end in
      let each = ends-parts taken name failures words.order words.«unit» s.packets begun parts end.parts.items s.writes in
      let flag : begun ≡ is_begun words.inputs.items ended.end =
      begun-same (IsLate left broken place old) words.inputs.items captures end.end late ∙ ap (is_begun words.inputs.items) (sym same) in
      record {
        packets = s.packets;
        reads = subst (λ e. ReadsTexts failed (length s.packets) 0 (map (λ path. text_at old (place path.now)) words.inputs.items) s.packets e) (sym same)
            (reads-texts left broken failed (length s.packets) 0 (map (λ path. text_at old (place path.now)) words.inputs.items) captures end.sources.items s.packets end.end
            (gives-mapped left broken (λ path. text_at old (place path.now)) words.inputs.items captures late) noted s.reads);
        cut = subst (λ b. AllZip (IsCut place old new failed words s.packets b) lines ended.parts.items) flag
            (all-cut taken name failures failed place words s.packets begun room old old new lines parts end.parts.items ended.parts.items made each closes own (λ k d inside live. refl));
        others = all-others taken name failures failed place words s.packets begun room old new lines parts end.parts.items ended.parts.items made each closes;
      }

-- ---- Why nothing was split

-- LINES was not read
unread-reason : (place : Places) (text : Texts) (printed : Option (List ℕ)) (failed : Bool) (denied : Option (List ℕ)) (words : SplitWords) (r : Refusal)
    → IsUnread place text denied words.lines.now r → IsReason place text printed failed denied words r
unread-reason place text printed failed denied words (refusal.TextTooLong path) is = is
unread-reason place text printed failed denied words (refusal.File path error) is = (inl is.0, subst (λ p. IsDenied place denied p error) (sym is.0) is.1)
unread-reason place text printed failed denied words (refusal.Lines bytes fault) is = absurd is
unread-reason place text printed failed denied words (refusal.Paths fault) is = absurd is
unread-reason place text printed failed denied words refusal.NoMemory is = absurd is

-- an OUT may not be written
shared-reason : (place : Places) (text : Texts) (printed : Option (List ℕ)) (failed : Bool) (denied : Option (List ℕ)) (words : SplitWords) (lines : List SplitLine) (r : Refusal)
    → AreAsked place text words lines → IsShared place printed failed words lines r → IsReason place text printed failed denied words r
shared-reason place text printed failed denied words lines (refusal.Paths fault) asked is = (lines, asked, is)
shared-reason place text printed failed denied words lines refusal.NoMemory asked is = tt
shared-reason place text printed failed denied words lines (refusal.TextTooLong path) asked is = absurd is
shared-reason place text printed failed denied words lines (refusal.File path error) asked is = absurd is
shared-reason place text printed failed denied words lines (refusal.Lines bytes fault) asked is = absurd is

-- a file was not opened or made
unmade-reason : (place : Places) (text : Texts) (printed : Option (List ℕ)) (failed : Bool) (denied : Option (List ℕ)) (words : SplitWords) (lines : List SplitLine) (r : Refusal)
    → AreAsked place text words lines → IsUnmade (IsInput words.inputs.items) place denied r ⊎ IsUnmade (IsOutput lines) place denied r → IsReason place text printed failed denied words r
unmade-reason place text printed failed denied words lines (refusal.File path error) asked (inl is) = (inr (inl is.0), is.1)
unmade-reason place text printed failed denied words lines (refusal.File path error) asked (inr is) = (inr (inr (lines, asked, is.0)), is.1)
unmade-reason place text printed failed denied words lines refusal.NoMemory asked is = tt
unmade-reason place text printed failed denied words lines (refusal.Paths fault) asked (inl is) = absurd is
unmade-reason place text printed failed denied words lines (refusal.Paths fault) asked (inr is) = absurd is
unmade-reason place text printed failed denied words lines (refusal.TextTooLong path) asked (inl is) = absurd is
unmade-reason place text printed failed denied words lines (refusal.TextTooLong path) asked (inr is) = absurd is
unmade-reason place text printed failed denied words lines (refusal.Lines bytes fault) asked (inl is) = absurd is
unmade-reason place text printed failed denied words lines (refusal.Lines bytes fault) asked (inr is) = absurd is

-- ---- From step to step

all-mapped : {X Y : Type 0} (P : Y → Type 0) (f : X → Y) (xs : List X) → All (λ x. P (f x)) xs → All P (map f xs)
all-mapped P f [] each = all-none P
all-mapped P f (x ∷ xs) each = all-cons P (f x) (map f xs) (all-head (λ y. P (f y)) x xs each) (all-mapped P f xs (all-tail (λ y. P (f y)) x xs each))

-- no capture that was opened is an OUT
pub opened-apart : (place now : Places) (words : SplitWords) (lines : List SplitLine) (before opened : List (List ℕ)) → now ≡ place → before ≡ [] → opened ≡ before ++ map (λ path. place path.now) words.inputs.items
    → AreApart place words lines → All (λ line. All (λ read. read ≢ now line.output.now) opened) lines
opened-apart place now words lines before opened places none is apart =
    subst (λ (pl : Places). All (λ line. All (λ read. read ≢ pl line.output.now) opened) lines) (sym places)
    (all-map (λ line. All (λ path. place path.now ≢ place line.output.now) (words.lines ∷ words.inputs.items)) (λ line. All (λ read. read ≢ place line.output.now) opened)
    (λ line each. subst (λ os. All (λ read. read ≢ place line.output.now) os) (sym (is ∙ ap (λ bs. bs ++ map (λ path. place path.now) words.inputs.items) none))
    (all-mapped (λ read. read ≢ place line.output.now) (λ (path : Bor (List ℕ)). place path.now) words.inputs.items
    (all-tail (λ path. place path.now ≢ place line.output.now) words.lines words.inputs.items each)))
    lines apart)

pub late-kept : {R : Type 0} (left : R → Option (List ℕ)) (failures : R → ℕ) (place now : Places) (old mid : Texts) (paths : List (Bor (List ℕ))) (captures : List R) → now ≡ place → mid ≡ old
    → AllZip (IsLate left failures place old) paths captures → AllZip (IsLate left failures now mid) paths captures
late-kept left failures place now old mid paths captures places texts late =
    subst (λ (pl : Places). AllZip (IsLate left failures pl mid) paths captures) (sym places) (subst (λ (t : Texts). AllZip (IsLate left failures place t) paths captures) (sym texts) late)

pub split-kept : (place now : Places) (old mid new : Texts) (failed : Bool) (words : SplitWords) (lines : List SplitLine) (result : Result SplitReport Refusal) → now ≡ place → mid ≡ old
    → IfOk result (λ report. IsSplit now mid new failed words lines report.end) → IfOk result (λ report. IsSplit place old new failed words lines report.end)
split-kept place now old mid new failed words lines result places texts split =
    subst (λ (pl : Places). IfOk result (λ report. IsSplit pl old new failed words lines report.end)) places
    (subst (λ (t : Texts). IfOk result (λ report. IsSplit now t new failed words lines report.end)) texts split)

pub outputs-unmade : (place now : Places) (old mid new : Texts) (denied : Option (List ℕ)) (words : SplitWords) (lines : List SplitLine) (result : Result SplitReport Refusal) → now ≡ place → mid ≡ old
    → IfErr result (λ r. IsUnmade (IsOutput lines) now denied r × ((p : List ℕ) → new p ≡ mid p))
    → IfErr result (λ r. (IsUnmade (IsInput words.inputs.items) place denied r ⊎ IsUnmade (IsOutput lines) place denied r) × ((p : List ℕ) → new p ≡ old p))
outputs-unmade place now old mid new denied words lines (Ok report) places texts unmade = tt
outputs-unmade place now old mid new denied words lines (Err r) places texts unmade = (
  inr (subst (λ (pl : Places). IsUnmade (IsOutput lines) pl denied r) places unmade.0),
  subst (λ (t : Texts). (p : List ℕ) → new p ≡ t p) texts unmade.1,
)

pub inputs-unmade : (place : Places) (old new : Texts) (denied : Option (List ℕ)) (words : SplitWords) (lines : List SplitLine) (r : Refusal) → new ≡ old → IsUnmade (IsInput words.inputs.items) place denied r
    → (IsUnmade (IsInput words.inputs.items) place denied r ⊎ IsUnmade (IsOutput lines) place denied r) × ((p : List ℕ) → new p ≡ old p)
inputs-unmade place old new denied words lines r texts unmade = (inl unmade, λ p. ap (λ (t : Texts). t p) texts)

-- the text of LINES asks for these
pub asked-by : (place : Places) (text : Texts) (words : SplitWords) (bytes : List ℕ) (lines : List SplitLine) → IsTextOf place text words.lines.now bytes → AreSplitLines bytes lines → length lines ≤ 1024
    → AreAsked place text words lines
asked-by place text words bytes lines read say few = record { bytes = bytes; read = read; say = say; few = few }

pub planned-into : (place now : Places) (old mid new : Texts) (printed : Option (List ℕ)) (failed : Bool) (words : SplitWords) (lines : List SplitLine) (result : Result SplitReport Refusal) → now ≡ place → mid ≡ old
    → AreAsked place old words lines → AreApart place words lines → HaveOwnFiles place lines → AreUnprinted place printed words lines → IfOk result (λ report. report.lines.items ≡ lines)
    → IfOk result (λ report. IsSplit now mid new failed words lines report.end) → IfOk result (SplitsInto place old new printed failed words)
planned-into place now old mid new printed failed words lines (Err r) places texts asked apart own unprinted same split = tt
planned-into place now old mid new printed failed words lines (Ok report) places texts asked apart own unprinted same split = record {
  asked = subst (λ ls. AreAsked place old words ls) (sym same) asked;
  apart = subst (λ ls. AreApart place words ls) (sym same) apart;
  own = subst (λ ls. HaveOwnFiles place ls) (sym same) own;
  unprinted = subst (λ ls. AreUnprinted place printed words ls) (sym same) unprinted;
  split = subst (λ ls. IsSplit place old new failed words ls report.end) (sym same) (split-kept place now old mid new failed words lines (Ok report) places texts split);
}

-- nothing was done, for a reason
refused-files : (place : Places) (old new : Texts) (printed : Option (List ℕ)) (failed : Bool) (denied : Option (List ℕ)) (words : SplitWords) (r : Refusal) → new ≡ old
    → IsReason place old printed failed denied words r → SplitsFiles place old new printed failed denied words (Refused r)
refused-files place old new printed failed denied words r texts is = (is, λ p. ap (λ (t : Texts). t p) texts)

-- LINES was not read
pub unread-files : (place : Places) (old new : Texts) (printed : Option (List ℕ)) (failed : Bool) (denied : Option (List ℕ)) (words : SplitWords) (r : Refusal) → new ≡ old
    → IsUnread place old denied words.lines.now r → SplitsFiles place old new printed failed denied words (Refused r)
unread-files place old new printed failed denied words r texts is =
    refused-files place old new printed failed denied words r texts (unread-reason place old printed failed denied words r is)

-- the paths are refused
pub shared-files : (place now : Places) (old new : Texts) (printed printed-now : Option (List ℕ)) (failed : Bool) (denied : Option (List ℕ)) (words : SplitWords) (lines : List SplitLine) (r : Refusal)
    → now ≡ place → new ≡ old → printed-now ≡ printed → AreAsked place old words lines → IsShared now printed-now failed words lines r → SplitsFiles place old new printed failed denied words (Refused r)
shared-files place now old new printed printed-now failed denied words lines r places texts prints asked is =
    refused-files place old new printed failed denied words r texts (shared-reason place old printed failed denied words lines r asked
    (subst (λ (pl : Places). IsShared pl printed failed words lines r) places (subst (λ pr. IsShared now pr failed words lines r) prints is)))

pub unmade-files : (place now : Places) (old mid new : Texts) (printed : Option (List ℕ)) (failed : Bool) (denied : Option (List ℕ)) (words : SplitWords) (lines : List SplitLine) (result : Result SplitReport Refusal)
    → now ≡ place → mid ≡ old → AreAsked place old words lines
    → IfErr result (λ r. (IsUnmade (IsInput words.inputs.items) now denied r ⊎ IsUnmade (IsOutput lines) now denied r) × ((p : List ℕ) → new p ≡ mid p))
    → IfErr result (λ r. SplitsFiles place old new printed failed denied words (Refused r))
unmade-files place now old mid new printed failed denied words lines (Ok report) places texts asked unmade = tt
unmade-files place now old mid new printed failed denied words lines (Err r) places texts asked unmade = (
  unmade-reason place old printed failed denied words lines r asked
      (subst (λ (pl : Places). IsUnmade (IsInput words.inputs.items) pl denied r ⊎ IsUnmade (IsOutput lines) pl denied r) places unmade.0),
  subst (λ (t : Texts). (p : List ℕ) → new p ≡ t p) texts unmade.1,
)

pub space-of : {R W : Type 0} (captures captures' lines lines' : ℕ) (space : Space R W) → captures ≡ captures' → lines ≡ lines' → HasSpace captures lines space → HasSpace captures' lines' space
space-of captures captures' lines lines' space few same has =
    subst (λ n. HasSpace captures' n space) same (subst (λ n. HasSpace n lines space) few has)
