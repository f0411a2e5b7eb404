-- The operands of instructions, from the front of a line's tokens, in the addressing modes of the paper of 1993 and of bpf_asm.
--
-- A reading is what was read and the tokens that follow it. There is none where this cannot be read.
use Rattle.std.specs.Prelude.{ℕ, ◌==◌, if◌then◌else◌, List, [], ◌∷◌, Option, Some, None}
use Rattle.bpf_asm.specs.Types.{Token, Operand}
use Rattle.bpf_asm.specs.Types.tokens
use Rattle.bpf_asm.specs.Types.operands

infixl 10 ◌>>=◌
abbrev pub ◌>>=◌ : {A B : Type 0} → Option A → (A → Option B) → Option B
(Some x) >>= f = f x
None >>= f = None

abbrev pub next_of : List Token → Option (Token × List Token)
next_of [] = None
next_of (token ∷ rest) = Some (token, rest)

-- ---- Single tokens

abbrev pub number_at : List Token → Option (ℕ × List Token)
number_at (tokens.Number n ∷ rest) = Some (n, rest)
number_at rest = None

abbrev pub open_at : List Token → Option (List Token)
open_at (tokens.Open ∷ rest) = Some rest
open_at rest = None

abbrev pub close_at : List Token → Option (List Token)
close_at (tokens.Close ∷ rest) = Some rest
close_at rest = None

abbrev pub open_bracket_at : List Token → Option (List Token)
open_bracket_at (tokens.OpenBracket ∷ rest) = Some rest
open_bracket_at rest = None

abbrev pub close_bracket_at : List Token → Option (List Token)
close_bracket_at (tokens.CloseBracket ∷ rest) = Some rest
close_bracket_at rest = None

abbrev pub plus_at : List Token → Option (List Token)
plus_at (tokens.Plus ∷ rest) = Some rest
plus_at rest = None

abbrev pub times_at : List Token → Option (List Token)
times_at (tokens.Times ∷ rest) = Some rest
times_at rest = None

abbrev pub and_at : List Token → Option (List Token)
and_at (tokens.And ∷ rest) = Some rest
and_at rest = None

-- ---- Operands

-- `[3]`
abbrev pub bracketed_at : List Token → Option (ℕ × List Token)
bracketed_at text = open_bracket_at text >>= λ inner. number_at inner >>= λ n. close_bracket_at n.1 >>= λ rest. Some (n.0, rest)

-- ` + 14]`, after `[x`
abbrev pub indirect_at : List Token → Option (Operand × List Token)
indirect_at text = plus_at text >>= λ offset. number_at offset >>= λ n. close_bracket_at n.1 >>= λ rest. Some (operands.PacketAtIndex n.0, rest)

-- `14]` or `x + 14]`, after `[`
abbrev pub packet_at : List Token → Option (Operand × List Token)
packet_at (tokens.Index ∷ rest) = indirect_at rest
packet_at (tokens.Number n ∷ rest) = close_bracket_at rest >>= λ behind. Some (operands.Packet n, behind)
packet_at rest = None

-- `[3]`, after `M`
abbrev pub cell_at : List Token → Option (Operand × List Token)
cell_at text = bracketed_at text >>= λ n. Some (operands.Cell n.0, n.1)

-- a number or `len`, after `#`
abbrev pub literal_at : List Token → Option (Operand × List Token)
literal_at (tokens.Number n ∷ rest) = Some (operands.Literal n, rest)
literal_at (tokens.Length ∷ rest) = Some (operands.Length, rest)
literal_at rest = None

-- `&0xf)`
abbrev pub low_bits_at : List Token → Option (List Token)
low_bits_at text = and_at text >>= λ mask. number_at mask >>= λ n. if n.0 == 15 then close_at n.1 else None

-- `*([14]&0xf)`, after `4`
abbrev pub header_length_at : List Token → Option (Operand × List Token)
header_length_at text =
    times_at text >>= λ group. open_at group >>= λ inner. bracketed_at inner >>= λ n. low_bits_at n.1 >>= λ rest.
    Some (operands.HeaderLength n.0, rest)

-- after the number at the front, which has to be 4
abbrev pub counted_at : ℕ → List Token → Option (Operand × List Token)
counted_at n rest = if n == 4 then header_length_at rest else None

-- an operand, or none at the end of the line
abbrev pub operand_at : List Token → Option (Operand × List Token)
operand_at [] = Some (operands.Nothing, [])
operand_at (tokens.Index ∷ rest) = Some (operands.Index, rest)
operand_at (tokens.Accumulator ∷ rest) = Some (operands.Accumulator, rest)
operand_at (tokens.Length ∷ rest) = Some (operands.Length, rest)
operand_at (tokens.Hash ∷ rest) = literal_at rest
operand_at (tokens.OpenBracket ∷ rest) = packet_at rest
operand_at (tokens.Memory ∷ rest) = cell_at rest
operand_at (tokens.Number n ∷ rest) = counted_at n rest
operand_at rest = None
