-- Characters that control how a text is shown.
use Rattle.std.specs.Prelude.{ℕ, ◌||◌, Bool, List, if◌then◌else◌, chars, encode_utf8_all, map}
use Rattle.std.specs.Char.{is_control}
use Rattle.std.specs.Int.{is_in_range}

-- a character that turns the direction of the text after it, as of Unicode Standard Annex 9: an embedding, an override or an isolate, and their ends
abbrev pub turns_text : ℕ → Bool
turns_text c = is_in_range 0x202A 0x202E c || is_in_range 0x2066 0x2069 c

-- a control character too
abbrev pub is_hidden : ℕ → Bool
is_hidden c = is_control c || turns_text c

-- a question mark for a hidden character
abbrev pub marked : ℕ → ℕ
marked c = if is_hidden c then 63 else c

-- a name with a question mark for each hidden character
unfoldable pub marked_name : List ℕ → List ℕ
marked_name name = encode_utf8_all (map marked (chars name))

-- a name on a terminal, and elsewhere
abbrev pub printed_name : Bool → List ℕ → List ℕ
printed_name is_terminal name = if is_terminal then marked_name name else name
