-- Why a replay gives no report.
use Rattle.std.specs.Prelude.{◌≡◌, ℕ, ◌<◌, ◌≤◌, ◌⊎◌, List, [], ◌∷◌, length, take, Some, slice_get, string_bytes}
use Rattle.filterlang.specs.declared.fault.Fault.TheVariants as misread
use Rattle.filterlang.specs.declared.lexer.TheConstants.{MAX_TEXT}
use Rattle.filterlang.specs.Trees.{Tree}
use Rattle.filterlang.specs.Texts.{ReadsAs, IsRefusalOf}
use Rattle.filtergen_facts.specs.declared.refusal.Refusal.TheVariants as uncompiled
use Rattle.filtergen_facts.specs.Weights.{need, weight}
use Rattle.filtergen_code.specs.Compiling.{IsBadSnap}
use Rattle.listener.specs.declared.fault.OpenFault.TheVariants as unopened
use Rattle.listener.specs.Listening.{RefusesOpen, InRange}
use Rattle.tap.specs.declared.fault.Fault.{Fault}
use Rattle.tap.specs.declared.fault.Fault.TheVariants.{TooMany, NoListener, Capture, Expression, Compile, Open, NoMemory}
use Rattle.tap_steps.specs.declared.filters.Spec.{Spec}
use Rattle.tap_steps.specs.declared.filters.Filter.{Filter}
use Rattle.tap_steps.specs.declared.filters.Filter.TheVariants.{Text, Program}
use Rattle.tap_steps.specs.declared.step.Step.{Step}
use Rattle.tap_steps.specs.declared.fault.PlaylistFault.{PlaylistFault}
use Rattle.tap_steps.specs.declared.fault.PlaylistFault.TheVariants as unlisted
use Rattle.tap_steps.specs.OwnSteps.{AllName, FirstMissing}
use Rattle.tap_steps.specs.Playlist.{NoHeaderIsRefused, RefusesCapture}

-- ---- The limits

abbrev pub AreTooMany : List (List ℕ) → List Spec → Type 0
AreTooMany texts specs = (64 < length specs) ⊎ (65536 < length texts)

-- ---- Captures

-- why captures give no playlist, as the fault of a replay
abbrev pub of_playlist : PlaylistFault → Fault
of_playlist (unlisted.Capture n fault) = Capture n fault
of_playlist unlisted.NoMemory = NoMemory

-- ---- Listeners

-- a text reads as an expression
pub record IsExpression (text : List ℕ) : Type 0 where
  pub short : length text ≤ MAX_TEXT
  pub tree : Tree
  pub reads : ReadsAs text tree

-- Nothing stands against a filter at this snapshot length: a program, or an expression, which wants a snapshot length
-- that can be compiled and no more than the 16 words of scratch memory.
abbrev pub FilterIsRight : Filter → ℕ → Type 0
FilterIsRight (Program program) snap = Unit {0}
FilterIsRight (Text text) snap =
    (expression : IsExpression (string_bytes text)) × (IsBadSnap snap → ⊥) × (need expression.tree ≤ 16)

-- Why a filter is refused: a text that is no expression, or one that isn't compiled. That an expression is too long for
-- a program comes only where its weight is above 500.
abbrev pub RefusesFilter : ℕ → Filter → ℕ → Fault → Type 0
RefusesFilter l (Text text) snap (Expression k misread.NoMemory) = ⊥
RefusesFilter l (Text text) snap (Expression k fault) = (k ≡ l) × IsRefusalOf (string_bytes text) fault
RefusesFilter l (Text text) snap (Compile k uncompiled.BadSnap) = (k ≡ l) × IsExpression (string_bytes text) × IsBadSnap snap
RefusesFilter l (Text text) snap (Compile k uncompiled.TooDeep) =
    (k ≡ l) × (IsBadSnap snap → ⊥) × (expression : IsExpression (string_bytes text)) × (16 < need expression.tree)
RefusesFilter l (Text text) snap (Compile k uncompiled.TooLong) =
    (k ≡ l) × (IsBadSnap snap → ⊥)
    × (expression : IsExpression (string_bytes text)) × (need expression.tree ≤ 16) × (500 < weight expression.tree)
RefusesFilter l filter snap other = ⊥

-- why the l-th listener is refused: its filter, or else its snapshot length or capacity
abbrev pub RefusesListener : ℕ → Spec → Fault → Type 0
RefusesListener l spec (Open k unopened.NoMemory) = ⊥
RefusesListener l spec (Open k fault) = (k ≡ l) × FilterIsRight spec.filter spec.snap × RefusesOpen spec.snap spec.capacity fault
RefusesListener l spec other = RefusesFilter l spec.filter spec.snap other

-- nothing stands against these listeners
abbrev pub ListenersAreRight : List Spec → Type 0
ListenersAreRight [] = Unit {0}
ListenersAreRight (spec ∷ specs) = (FilterIsRight spec.filter spec.snap × InRange spec.snap spec.capacity) × ListenersAreRight specs

-- a listener is refused, and none before it is
abbrev pub RefusesOne : List Spec → Fault → Type 0
RefusesOne specs fault = (l : ℕ) × (spec : Spec) × (slice_get specs l ≡ Some spec) × RefusesListener l spec fault × ListenersAreRight (take l specs)

-- ---- The whole

-- Why a replay gives no report: the first fault that applies; each supposes that none before it does. Running out of memory can
-- come at any point.
abbrev pub IsFirst : List (List ℕ) → List Spec → List Step → Fault → Type 0
IsFirst texts specs steps TooMany = AreTooMany texts specs
IsFirst texts specs steps (NoListener place) = (AreTooMany texts specs → ⊥) × FirstMissing (length specs) steps place
IsFirst texts specs steps (Capture n fault) =
    (AreTooMany texts specs → ⊥) × AllName (length specs) steps × RefusesCapture texts (unlisted.Capture n fault)
IsFirst texts specs steps NoMemory = Unit {0}
IsFirst texts specs steps fault =
    (AreTooMany texts specs → ⊥) × AllName (length specs) steps × NoHeaderIsRefused texts × RefusesOne specs fault

-- no fault stands
pub record NoneStands (texts : List (List ℕ)) (specs : List Spec) (steps : List Step) : Type 0 where
  pub number : AreTooMany texts specs → ⊥
  pub all_name : AllName (length specs) steps
  pub headers : NoHeaderIsRefused texts
  pub listeners : ListenersAreRight specs
