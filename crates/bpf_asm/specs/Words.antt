-- The words and signs of assembly.
use Rattle.std.specs.Prelude.{ℕ, ◌-◌, ◌==◌, nat_le, if◌then◌else◌, List, [], ◌∷◌, ◌++◌, Option, Some, None, length, replicate, codes, option_map}
use Rattle.std.specs.List.{find}
use Rattle.std.specs.Str.{bytes_eq}
use Rattle.bpf_asm.specs.Types.{Token, Label}
use Rattle.bpf_asm.specs.Types.tokens
use Rattle.bpf_asm.specs.Types.names
use Rattle.bpf_asm.specs.Types.sizes

-- an entry of a table: a spelling, and what it stands for
abbrev pub Entry : Type 0
Entry = List ℕ × Token

-- The words that are no labels: names of instructions, with their codes, and what operands are made of. The code of
-- arithmetic and of a conditional jump is one with a constant, and another one with the index register.
unfoldable pub keywords : List Entry
keywords =
    (codes "ld", tokens.Name (names.Load sizes.Word))
    ∷ (codes "ldh", tokens.Name (names.Load sizes.Half))
    ∷ (codes "ldb", tokens.Name (names.Load sizes.Byte))
    ∷ (codes "ldi", tokens.Name names.LoadImmediate)
    ∷ (codes "ldx", tokens.Name names.LoadIndex)
    ∷ (codes "ldxi", tokens.Name names.LoadIndexImmediate)
    ∷ (codes "ldxb", tokens.Name names.LoadHeaderLength)
    ∷ (codes "st", tokens.Name names.Store)
    ∷ (codes "stx", tokens.Name names.StoreIndex)
    ∷ (codes "add", tokens.Name (names.Calculate 0x04 0x0c))
    ∷ (codes "sub", tokens.Name (names.Calculate 0x14 0x1c))
    ∷ (codes "mul", tokens.Name (names.Calculate 0x24 0x2c))
    ∷ (codes "div", tokens.Name (names.Calculate 0x34 0x3c))
    ∷ (codes "mod", tokens.Name (names.Calculate 0x94 0x9c))
    ∷ (codes "and", tokens.Name (names.Calculate 0x54 0x5c))
    ∷ (codes "or", tokens.Name (names.Calculate 0x44 0x4c))
    ∷ (codes "xor", tokens.Name (names.Calculate 0xa4 0xac))
    ∷ (codes "lsh", tokens.Name (names.Calculate 0x64 0x6c))
    ∷ (codes "rsh", tokens.Name (names.Calculate 0x74 0x7c))
    ∷ (codes "neg", tokens.Name names.Negate)
    ∷ (codes "tax", tokens.Name names.ToIndex)
    ∷ (codes "txa", tokens.Name names.ToAccumulator)
    ∷ (codes "ret", tokens.Name names.Return)
    ∷ (codes "ja", tokens.Name names.Jump)
    ∷ (codes "jmp", tokens.Name names.Jump)
    ∷ (codes "jeq", tokens.Name (names.JumpIf 0x15 0x1d))
    ∷ (codes "jgt", tokens.Name (names.JumpIf 0x25 0x2d))
    ∷ (codes "jge", tokens.Name (names.JumpIf 0x35 0x3d))
    ∷ (codes "jset", tokens.Name (names.JumpIf 0x45 0x4d))
    ∷ (codes "jne", tokens.Name (names.JumpUnless 0x15 0x1d))
    ∷ (codes "jneq", tokens.Name (names.JumpUnless 0x15 0x1d))
    ∷ (codes "jle", tokens.Name (names.JumpUnless 0x25 0x2d))
    ∷ (codes "jlt", tokens.Name (names.JumpUnless 0x35 0x3d))
    ∷ (codes "x", tokens.Index)
    ∷ (codes "%x", tokens.Index)
    ∷ (codes "a", tokens.Accumulator)
    ∷ (codes "%a", tokens.Accumulator)
    ∷ (codes "M", tokens.Memory)
    ∷ (codes "len", tokens.Length)
    ∷ (codes "pktlen", tokens.Length)
    ∷ (codes "jt", tokens.WhereTrue)
    ∷ (codes "jf", tokens.WhereFalse)
    ∷ []

-- what a word stands for in a table
abbrev pub spelled : List Entry → List ℕ → Option Token
spelled table word = option_map (λ entry. entry.1) (find (λ entry. bytes_eq entry.0 word) table)

-- the keyword that is spelled so
abbrev pub keyword_of : List ℕ → Option Token
keyword_of word = spelled keywords word

-- the label that is spelled so: its bytes, and zeros up to 32
abbrev pub label_of : List ℕ → Option Label
label_of word = if nat_le (length word) 32 then Some (record { bytes = word ++ replicate (32 - length word) 0 }) else None

-- # & ( ) * + , : [ ]
abbrev pub sign_of : ℕ → Option Token
sign_of byte =
    if byte == 35 then Some tokens.Hash
    else (if byte == 38 then Some tokens.And
    else (if byte == 40 then Some tokens.Open
    else (if byte == 41 then Some tokens.Close
    else (if byte == 42 then Some tokens.Times
    else (if byte == 43 then Some tokens.Plus
    else (if byte == 44 then Some tokens.Comma
    else (if byte == 58 then Some tokens.Colon
    else (if byte == 91 then Some tokens.OpenBracket
    else (if byte == 93 then Some tokens.CloseBracket
    else None)))))))))
