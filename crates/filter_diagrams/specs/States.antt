-- States: the words that registers and cells hold on a way through a program. Only private clauses say this.
use Rattle.std.specs.Prelude.{◌≡◌, ⊤, ℕ, ◌<◌, ◌⊎◌, List, length, Option, Some, None, IfSome, slice_index, slice_index_or}
use Rattle.bpfvm.specs.Machine.{Registers, initial}
use Rattle.filter_meaning.specs.Meaning.{Packet}
use Rattle.filter_bdd.specs.declared.table.Node.{Node}
use Rattle.filter_words.specs.declared.word.Word.{Word}
use Rattle.filter_words.specs.Words.{IsWord, value}
use Rattle.filter_symbols.specs.Packets.{bit_of}
use Rattle.filter_diagrams.specs.declared.actions.Register.{Register}
use Rattle.filter_diagrams.specs.declared.actions.Register.TheVariants.{Accumulator, Index}
use Rattle.filter_diagrams.specs.declared.state.State.{State}

-- the word in a cell
abbrev pub cell : State → ℕ → Option Word
cell s k = slice_index_or s.memory k None

abbrev pub word_in : Register → State → Option Word
word_in Accumulator s = s.accumulator
word_in Index s = s.index

-- the words of a state are words of a table
pub record AreWords (nodes : List Node) (s : State) : Type 0 where
  pub accumulator : IfSome s.accumulator (IsWord nodes)
  pub index : IfSome s.index (IsWord nodes)
  pub memory : (k : ℕ) → k < 16 → IfSome (cell s k) (IsWord nodes)

-- a word, if there is one, is this number of a packet
abbrev pub IsNumber : List Node → Packet → Option Word → ℕ → Type 0
IsNumber nodes p None n = ⊤
IsNumber nodes p (Some w) n = value nodes (bit_of p) w ≡ n

-- the words of a state are what the registers and cells hold
pub record IsStateOf (nodes : List Node) (s : State) (p : Packet) (r : Registers) : Type 0 where
  pub cells : length r.memory ≡ 16
  pub accumulator : IsNumber nodes p s.accumulator r.accumulator
  pub index : IsNumber nodes p s.index r.index
  pub memory : (k : ℕ) → k < 16 → IsNumber nodes p (cell s k) (slice_index r.memory k)

-- a word in place of another one
abbrev pub HasWord : State → Register → Word → State → Type 0
HasWord s Accumulator w t = (t.accumulator ≡ Some w) × (t.index ≡ s.index) × (t.memory ≡ s.memory)
HasWord s Index w t = (t.accumulator ≡ s.accumulator) × (t.index ≡ Some w) × (t.memory ≡ s.memory)

pub record HasCell (s : State) (place : ℕ) (w : Word) (t : State) : Type 0 where
  pub inside : place < 16
  pub accumulator : t.accumulator ≡ s.accumulator
  pub index : t.index ≡ s.index
  pub here : cell t place ≡ Some w
  pub others : (k : ℕ) → (k ≡ place → ⊥) → cell t k ≡ cell s k

-- a word or none
abbrev pub IsKept : Option Word → Option Word → Type 0
IsKept old new = (new ≡ old) ⊎ (new ≡ None)

-- a state has what another one has, or less
pub record IsPart (s t : State) : Type 0 where
  pub accumulator : IsKept s.accumulator t.accumulator
  pub index : IsKept s.index t.index
  pub memory : (k : ℕ) → k < 16 → IsKept (cell s k) (cell t k)

-- each register and each cell is 0
pub record IsInitial (nodes : List Node) (s : State) : Type 0 where
  pub words : AreWords nodes s
  pub is : (p : Packet) → IsStateOf nodes s p initial
