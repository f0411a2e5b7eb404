-- How a path is shown.
use Rattle.std.specs.Prelude.{ℕ, List, [], ◌∷◌, if◌then◌else◌, flat_map, chars, encode_utf8_all}
use Rattle.std.specs.Char.{is_control}
use Rattle.std.specs.Char.Escape.{escape_default}

-- the characters that are shown for one: for a control character its escape in a Rust string, else the character itself
abbrev pub shown_characters : ℕ → List ℕ
shown_characters c = if is_control c then escape_default c else c ∷ []

-- a path as it is shown
unfoldable pub escaped_path : List ℕ → List ℕ
escaped_path path = encode_utf8_all (flat_map shown_characters (chars path))
