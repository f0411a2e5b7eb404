-- Strings of JSON (RFC 8259), of texts in UTF-8.
use Rattle.std.specs.Prelude.{ℕ, ◌/◌, ◌%◌, ◌==◌, ◌||◌, ◌&&◌, not, Bool, false, if◌then◌else◌, List, [], ◌∷◌, ◌++◌, chars, codes, encode_utf8, flat_map}
use Rattle.std.specs.Fmt.{digit_glyph}
use Rattle.std.specs.Int.{is_in_range}
use Rattle.visible_text.specs.Hidden.{is_hidden}

-- a byte in hexadecimal
abbrev pub two_digits : ℕ → List ℕ
two_digits byte = digit_glyph false (byte / 16) ∷ digit_glyph false (byte % 16) ∷ []

-- what stands in a string for a hidden character: its number in hexadecimal
abbrev pub number_escape : ℕ → List ℕ
number_escape c = codes "\\u" ++ two_digits (c / 256) ++ two_digits (c % 256)

-- what stands in a string for a character: a quote and a backslash are written after a backslash
unfoldable pub escape_text : ℕ → List ℕ
escape_text c = if is_hidden c then number_escape c else (if (c == 34) || (c == 92) then 92 ∷ c ∷ [] else encode_utf8 c)

-- a byte that is an ASCII character without an escape
abbrev pub is_plain : ℕ → Bool
is_plain byte = is_in_range 32 126 byte && not (byte == 34) && not (byte == 92)

-- what stands in a string for a text
unfoldable pub escaped : List ℕ → List ℕ
escaped text = flat_map escape_text (chars text)

-- a text in quotes
unfoldable pub json_string : List ℕ → List ℕ
json_string text = codes "\"" ++ escaped text ++ codes "\""
