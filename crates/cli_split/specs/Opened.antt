-- The files of a split that were read, opened or made.
use Rattle.std.specs.Prelude.{◌≡◌, ◌≤◌, ◌⊎◌, ℕ, Bool, true, List, [], Any, Option, Some, length, vec_capacity, ⊤}
use Rattle.std.specs.Borrow.{Bor}
use Rattle.bpfvm.specs.declared.insn.Insn.{Insn}
use Rattle.cli_store.specs.Files.{Places, Texts, text_at}
use Rattle.cli_split.specs.Texts.{GivesText}
use Rattle.cli_split.specs.SplitFiles.{IsDenied, IsLongText}
use Rattle.cli_split.specs.Splitting.{HasRoom}
use Rattle.cli_split.specs.declared.files.Space.{Space}
use Rattle.cli_split.specs.declared.outcome.Refusal.{Refusal}
use Rattle.cli_split.specs.declared.outcome.Refusal.TheVariants as refusal
use Rattle.cli_split.specs.declared.part.Part.{Part}
use Rattle.cli_split.specs.declared.plan.SplitLine.{SplitLine}

-- why LINES was not read
abbrev pub IsUnread : Places → Texts → Option (List ℕ) → List ℕ → Refusal → Type 0
IsUnread place text denied path (refusal.TextTooLong long) = (long.now ≡ path) × IsLongText place text path
IsUnread place text denied path (refusal.File unread error) = (unread.now ≡ path) × IsDenied place denied path error
IsUnread place text denied path other = ⊥

-- why a file, of which this holds, was not opened or made
abbrev pub IsUnmade : (List ℕ → Type 0) → Places → Option (List ℕ) → Refusal → Type 0
IsUnmade Is place denied (refusal.File path error) = Is path.now × IsDenied place denied path.now error
IsUnmade Is place denied refusal.NoMemory = ⊤
IsUnmade Is place denied other = ⊥

-- one of these captures
abbrev pub IsInput : List (Bor (List ℕ)) → List ℕ → Type 0
IsInput paths path = Any (λ input. input.now ≡ path) paths

-- the OUT of one of these lines
abbrev pub IsOutput : List SplitLine → List ℕ → Type 0
IsOutput lines path = Any (λ line. line.output.now ≡ path) lines

-- a capture has left what the file at a path has
abbrev pub IsLate : {R : Type 0} → (R → Option (List ℕ)) → (R → ℕ) → Places → Texts → Bor (List ℕ) → R → Type 0
IsLate left failures place text path capture = GivesText left failures (text_at text (place path.now)) capture

-- a part is that of a line: its program is the line's, and its sink is the OUT, and empty
pub record IsMadeOf {W : Type 0} (taken : W → Option (List ℕ)) (name : W → List ℕ) (failures : W → ℕ) (place : Places) (Stands : SplitLine → List Insn → Type 0) (line : SplitLine) (part : Part W) : Type 0 where
  pub stands : Stands line part.program
  pub snap : part.snap ≡ line.snap
  pub named : name part.sink ≡ place line.output.now
  pub empty : taken part.sink ≡ Some []
  pub works : failures part.sink ≡ 0

-- There is the memory that a split of so many captures needs for so many lines once an OUT is made.
pub record HasSpace {R W : Type 0} (captures lines : ℕ) (space : Space R W) : Type 0 where
  pub room : HasRoom captures lines space.room
  pub no_part : space.parts.items ≡ []
  pub parts : lines ≤ vec_capacity space.parts
  pub none_closed : length space.closed.items ≡ 0
  pub closed : lines ≤ vec_capacity space.closed
