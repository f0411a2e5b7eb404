-- The file LISTENERS.
use Rattle.std.specs.Prelude.{◌≡◌, ◌≢◌, ℕ, ◌⊎◌, List, [], ◌∷◌, ◌++◌, All, take, string_bytes}
use Rattle.std.specs.Str.{IsUtf8}
use Rattle.bpfvm.specs.Listing.{space}
use Rattle.tap_steps.specs.declared.filters.Filter.{Filter}
use Rattle.tap_steps.specs.declared.filters.Filter.TheVariants.{Text, Program}
use Rattle.tap_steps.specs.declared.filters.Spec.{Spec}
use Rattle.line_text.specs.declared.fault.LineFault.{LineFault}
use Rattle.line_text.specs.declared.fault.LineFault.TheVariants.{Listeners, Script, NoMemory}
use Rattle.line_text.specs.Fields.{IsSnap, IsCapacity}
use Rattle.line_text.specs.Files.{IsFileOf, IsFirstBad}

-- SNAP, a space and the rest, which is CAPACITY, a space and EXPRESSION. Where EXPRESSION is empty the space before it may
-- be missing. SNAP and CAPACITY have no space.
pub record AreFields (line snap capacity expression : List ℕ) : Type 0 where
  pub rest : List ℕ
  pub first : line ≡ snap ++ space ∷ rest
  pub second : (rest ≡ capacity ++ space ∷ expression) ⊎ ((rest ≡ capacity) × (expression ≡ []))
  pub one_snap : All (λ byte. byte ≢ space) snap
  pub one_capacity : All (λ byte. byte ≢ space) capacity

-- the filter is this text
abbrev pub IsFilterText : Filter → List ℕ → Type 0
IsFilterText (Text text) expression = string_bytes text ≡ expression
IsFilterText (Program program) expression = ⊥

-- `SNAP CAPACITY EXPRESSION`, where EXPRESSION is UTF-8
pub record IsListenerLine (line : List ℕ) (spec : Spec) : Type 0 where
  pub snap : List ℕ
  pub capacity : List ℕ
  pub expression : List ℕ
  pub fields : AreFields line snap capacity expression
  pub snap_is : IsSnap snap spec.snap
  pub capacity_is : IsCapacity capacity spec.capacity spec.mode
  pub text : IsUtf8 expression
  pub filter_is : IsFilterText spec.filter expression

-- The listeners that the lines of a file ask for, up to the 65th: where there are more than the 64 that a replay takes, there
-- are more here too.
pub record AreFirstOf (text : List ℕ) (specs : List Spec) : Type 0 where
  pub all : List Spec
  pub asked : IsFileOf IsListenerLine text all
  pub first : specs ≡ take 65 all

-- why listeners are not taken: the first bad line, or memory ran out
abbrev pub IsRefusedListeners : List ℕ → LineFault → Type 0
IsRefusedListeners text (Listeners n) = IsFirstBad IsListenerLine text n
IsRefusedListeners text (Script n) = ⊥
IsRefusedListeners text NoMemory = Unit {0}
