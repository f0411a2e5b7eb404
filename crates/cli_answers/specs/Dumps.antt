-- The bytes of a packet as `tcpdump -XX` prints them.
use Rattle.std.specs.Prelude.{◌≡◌, ℕ, zero, suc, ◌+◌, ◌-◌, ◌/◌, ◌%◌, Bool, true, false, cond, not, List, [], ◌∷◌, ◌++◌, length, take, drop, replicate, codes}
use Rattle.std.specs.Char.{is_ascii_graphic}
use Rattle.std.specs.List.{flat_map}
use Rattle.std.specs.Fmt.{digit_glyph, digits}

-- a byte as two digits
unfoldable pub byte_digits : ℕ → List ℕ
byte_digits byte = digit_glyph false (byte / 16) ∷ digit_glyph false (byte % 16) ∷ []

-- the same, after a blank if it begins a group
unfoldable pub group_text : (begins : Bool) → ℕ → List ℕ
group_text begins byte = cond begins (32 ∷ byte_digits byte) (byte_digits byte)

-- bytes as digits, two bytes to a group
unfoldable pub digits_text : (begins : Bool) → List ℕ → List ℕ
digits_text begins [] = []
digits_text begins (byte ∷ rest) = group_text begins byte ++ digits_text (not begins) rest

-- bytes as digits, without a blank
abbrev pub hex_text : List ℕ → List ℕ
hex_text bytes = flat_map (group_text false) bytes

-- a dot stands for what is no graphic character of ASCII
abbrev pub shown : ℕ → List ℕ
shown byte = cond (is_ascii_graphic byte) byte 46 ∷ []

-- an offset, in four digits at least
unfoldable pub offset_text : ℕ → List ℕ
offset_text at = codes "0x" ++ (replicate (4 - length (digits 16 false at)) 48 ++ digits 16 false at) ++ codes ": "

-- a line: its offset, its digits over 40 columns, and its characters
unfoldable pub row_text : ℕ → List ℕ → List ℕ
row_text at bytes =
    9 ∷ offset_text at ++ (digits_text true bytes ++ replicate (40 - length (digits_text true bytes)) 32) ++ codes "  " ++ flat_map shown bytes ++ 10 ∷ []

-- this many lines of 16 bytes, from this offset on
unfoldable pub rows_text : ℕ → ℕ → List ℕ → List ℕ
rows_text zero at bytes = []
rows_text (suc rows) at bytes = row_text at (take 16 bytes) ++ rows_text rows (at + 16) (drop 16 bytes)

abbrev pub dump_text : List ℕ → List ℕ
dump_text bytes = rows_text ((length bytes + 15) / 16) 0 bytes
