-- What instructions do by the words of a state, and what a node says of the rest of a run. Only private clauses say this.
use Rattle.std.specs.Prelude.{◌≡◌, ⊤, ℕ, ◌<◌, ◌⊎◌, List, [], ◌∷◌, Bool, true, false, length, drop, Option, nat_lt, if◌then◌else◌}
use Rattle.bpfvm.specs.declared.insn.Insn.{Insn}
use Rattle.bpfvm.specs.Codes.{Operand}
use Rattle.bpfvm.specs.Machine.{Registers, Effect, Goes, Ends, operand}
use Rattle.filter_meaning.specs.declared.verdict.Verdict.TheVariants.{Yes, Abort}
use Rattle.filter_meaning.specs.Meaning.{Packet, decided}
use Rattle.filter_bdd.specs.declared.table.Node.{Node}
use Rattle.filter_words.specs.declared.word.Word.{Word}
use Rattle.filter_words.specs.Words.{Says, IsWord, value}
use Rattle.filter_symbols.specs.declared.symbol.Symbols.{Symbols}
use Rattle.filter_symbols.specs.declared.symbol.Symbol.{Symbol}
use Rattle.filter_symbols.specs.Packets.{bit_of, verdict_at, IsPacket, HasHeader}
use Rattle.filter_symbols.specs.Symbols.{IsSymbol, Is}
use Rattle.filter_diagrams.specs.declared.actions.Action.{Action}
use Rattle.filter_diagrams.specs.declared.state.State.{State}
use Rattle.filter_diagrams.specs.declared.steps.Step.{Step}
use Rattle.filter_diagrams.specs.declared.steps.Step.TheVariants.{On, Branch, End}
use Rattle.filter_diagrams.specs.declared.spots.Spot.{Spot}
use Rattle.filter_diagrams.specs.declared.programs.Visited.{Visited}
use Rattle.filter_diagrams.specs.declared.programs.Visited.TheVariants as visited
use Rattle.filter_diagrams.specs.Actions.{effect_by, is_return}
use Rattle.filter_diagrams.specs.Programs.{run_test}
use Rattle.filter_diagrams.specs.States.{AreWords, IsStateOf}

-- a word is the operand of an instruction
pub record IsOperand (old new : List Node) (state : State) (o : Operand) (i : Insn) (w : Word) : Type 0 where
  pub inside : IsWord new w
  pub is : (p : Packet) (r : Registers) → IsStateOf old state p r → value new (bit_of p) w ≡ operand o i r

-- a symbol is the number that an instruction loads
pub record IsLoad (x y : Symbols) (state : State) (f : List ℕ → ℕ → Insn → Registers → Option ℕ) (i : Insn) (s : Symbol) : Type 0 where
  pub inside : IsSymbol y.words.diagrams s
  pub is : (p : Packet) → IsPacket p → HasHeader y.header p → (r : Registers) → IsStateOf x.words.diagrams state p r
      → Is y.words.diagrams p s (f p.captured p.wire i r)

-- the nodes of a step are there
abbrev pub IsInside : List Node → Step → Type 0
IsInside nodes (On guard passed state) = (guard < length nodes) × AreWords nodes state
IsInside nodes (Branch test) = test < length nodes
IsInside nodes (End node) = node < length nodes

-- an effect goes on past this many instructions, with the registers of a state
abbrev pub GoesOn : List Node → Effect → ℕ → State → Packet → Type 0
GoesOn nodes e passed state p = (r : Registers) × (e ≡ Goes passed r) × IsStateOf nodes state p r

-- An effect of an instruction on a packet is that of a step. `returns`: the instruction is a return.
abbrev pub IsEffect : List Node → Insn → (returns : Bool) → Registers → Packet → Effect → Step → Type 0
IsEffect nodes i returns r p e (On guard passed state) =
    ((verdict_at nodes guard p ≡ Yes) × GoesOn nodes e passed state p) ⊎ ((verdict_at nodes guard p ≡ Abort) × (e ≡ Ends 0) × (returns ≡ false))
IsEffect nodes i returns r p e (Branch test) = (b : Bool) × (verdict_at nodes test p ≡ decided b) × (e ≡ Goes (if b then i.jt else i.jf) r)
IsEffect nodes i returns r p e (End node) = (n : ℕ) × (e ≡ Ends n) × (verdict_at nodes node p ≡ (if returns then decided (nat_lt 0 n) else Abort))

-- a step goes on past this many instructions, with a state
pub record IsOn (nodes : List Node) (passed : ℕ) (state : State) (s : Step) : Type 0 where
  pub guard : ℕ
  pub is : s ≡ On guard passed state
  pub always : Says nodes (λ v. true) guard

-- a step is a conditional jump, by what a node says
pub record IsJump (old new : List Node) (state : State) (i : Insn) (test : ℕ) (s : Step) : Type 0 where
  pub inside : IsInside new s
  pub does : (p : Packet) (r : Registers) (b : Bool) → IsStateOf old state p r → verdict_at old test p ≡ decided b
      → IsEffect new i false r p (Goes (if b then i.jt else i.jf) r) s

-- a step is what an action does to each packet of a header length, with the registers of a state
pub record IsStepOf (x y : Symbols) (state : State) (i : Insn) (a : Action) (s : Step) : Type 0 where
  pub inside : IsInside y.words.diagrams s
  pub does : (p : Packet) → IsPacket p → HasHeader y.header p → (r : Registers) → IsStateOf x.words.diagrams state p r
      → IsEffect y.words.diagrams i (is_return a) r p (effect_by a p.captured p.wire i r) s

-- node i says of each packet that has the header what a run over these instructions does, with the registers of a state
pub record Follows (b : Symbols) (insns : List Insn) (state : State) (i : ℕ) : Type 0 where
  pub inside : i < length b.words.diagrams
  pub words : AreWords b.words.diagrams state
  pub says : (p : Packet) → IsPacket p → HasHeader b.header p → (r : Registers) → IsStateOf b.words.diagrams state p r
      → verdict_at b.words.diagrams i p ≡ run_test insns 0 r p

-- the node of a spot
abbrev pub IsNodeOf : Symbols → List Insn → Spot → ℕ → Type 0
IsNodeOf b insns spot i = Follows b (drop spot.place insns) spot.state i

-- each entry has a spot, and its node
abbrev pub AreNodes : Symbols → List Insn → List (Spot × ℕ) → Type 0
AreNodes b insns [] = ⊤
AreNodes b insns (e ∷ es) = IsNodeOf b insns e.0 e.1 × AreNodes b insns es

-- the words of spots are words of a table
abbrev pub AreSpots : List Node → List Spot → Type 0
AreSpots nodes [] = ⊤
AreSpots nodes (s ∷ ss) = AreWords nodes s.state × AreSpots nodes ss

-- what became of a spot: its node, or a spot that is to be visited first
abbrev pub IsVisited : Symbols → List Insn → Spot → Visited → Type 0
IsVisited b insns spot (visited.Node i) = IsNodeOf b insns spot i
IsVisited b insns spot (visited.First after) = AreWords b.words.diagrams after.state
