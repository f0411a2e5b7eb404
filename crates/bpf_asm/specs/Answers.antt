-- What calls answer that may be refused memory, and how words are found in tables. Except `IsRefused`, only private clauses say this.
use Rattle.std.specs.Prelude.{◌≡◌, ◌⊎◌, ℕ, ◌<◌, ◌≤◌, List, Option, Result, Ok, Err, option_map}
use Rattle.std.specs.Borrow.{Bor}
use Rattle.std.specs.List.{find}
use Rattle.std.specs.Str.{bytes_eq}
use Rattle.bpfvm.specs.Validity.{IsRefusedAs}
use Rattle.bpf_asm.specs.Types.{Insn, Token, AssemblyFault, Front}
use Rattle.bpf_asm.specs.Types.faults
use Rattle.bpf_asm.specs.Types.fronts
use Rattle.bpf_asm.specs.Assembly.{assembled}

-- why a text is no assembly of a program; that memory ran out says nothing
abbrev pub IsRefused : List ℕ → AssemblyFault → Type 0
IsRefused text faults.NoMemory = Unit {0}
IsRefused text (faults.Program fault) = (insns : List Insn) × (assembled text ≡ Ok insns) × IsRefusedAs insns fault
IsRefused text fault = assembled text ≡ Err fault

-- what a call answers is what the definition says, unless memory was refused
abbrev pub Agrees : {X Y : Type 0} → (X → Y) → Result X AssemblyFault → Result Y AssemblyFault → Type 0
Agrees view (Ok x) answer = answer ≡ Ok (view x)
Agrees view (Err fault) answer = (fault ≡ faults.NoMemory) ⊎ (answer ≡ Err fault)

-- the first entry of a table as the code has it that is spelled so
abbrev pub first_of : List ℕ → List (Bor (List ℕ) × Token) → Option Token
first_of word table = option_map (λ e. e.1) (find (λ e. bytes_eq e.0.now word) table)

-- n bytes of a text: at least one, and at most all of them
abbrev pub IsLengthWithin : ℕ → ℕ → Type 0
IsLengthWithin n bytes = (0 < n) × (n ≤ bytes)

-- what is at the front of this many bytes lies within them
abbrev pub IsWithin : Front → ℕ → Type 0
IsWithin fronts.End bytes = Unit {0}
IsWithin (fronts.Blank n) bytes = IsLengthWithin n bytes
IsWithin (fronts.Token token n) bytes = IsLengthWithin n bytes
IsWithin (fronts.Stuck cause) bytes = Unit {0}
