-- The lines of assembly.
use Rattle.std.specs.Prelude.{ℕ, List, [], ◌∷◌, Option, Some, None, Result, Ok, Err}
use Rattle.bpf_asm.specs.Types.{Token, Label, Cause, UnknownName, BadOperand, Instruction, Line}
use Rattle.bpf_asm.specs.Types.tokens
use Rattle.bpf_asm.specs.Operands.{◌>>=◌, close_at}
use Rattle.bpf_asm.specs.Instructions.{instruction_of}
use Rattle.bpf_asm.specs.Tokens.{lexed}

-- what follows from a value, or the error that stands in its place
abbrev pub bind : {A B E : Type 0} → Result A E → (A → Result B E) → Result B E
bind (Ok x) f = f x
bind (Err e) f = Err e

-- `(005)`, as an image has it
abbrev pub place_at : List Token → Option (ℕ × List Token)
place_at (tokens.Place place ∷ rest) = close_at rest >>= λ behind. Some (place, behind)
place_at rest = None

abbrev pub colon_at : List Token → Option (List Token)
colon_at (tokens.Colon ∷ rest) = Some rest
colon_at rest = None

-- `drop:`
abbrev pub label_at : List Token → Option (Label × List Token)
label_at (tokens.Label label ∷ rest) = colon_at rest >>= λ behind. Some (label, behind)
label_at rest = None

-- what is at the front, if it is there, and what follows
abbrev pub or_nothing : {A : Type 0} → Option (A × List Token) → List Token → Option A × List Token
or_nothing (Some found) text = (Some found.0, found.1)
or_nothing None text = (None, text)

abbrev pub place_and_rest : List Token → Option ℕ × List Token
place_and_rest text = or_nothing (place_at text) text

abbrev pub label_and_rest : List Token → Option Label × List Token
label_and_rest text = or_nothing (label_at text) text

abbrev pub instruction_or : Option Instruction → Result (Option Instruction) Cause
instruction_or (Some instruction) = Ok (Some instruction)
instruction_or None = Err BadOperand

-- a name and what it takes, or nothing
abbrev pub instruction_at : List Token → Result (Option Instruction) Cause
instruction_at [] = Ok None
instruction_at (tokens.Name name ∷ rest) = instruction_or (instruction_of name rest)
instruction_at rest = Err UnknownName

-- a place, a label and an instruction, each of which may be missing
abbrev pub line_at : List Token → Result Line Cause
line_at text =
    let place = place_and_rest text in
    let label = label_and_rest place.1 in
    bind (instruction_at label.1) (λ instruction. Ok (record { place = place.0; label = label.0; instruction = instruction }))

-- what a line's bytes say
unfoldable pub line_of : List ℕ → Result Line Cause
line_of text = bind (lexed 0 text) line_at
