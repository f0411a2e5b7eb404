-- Texts in strings of JSON, character after character, and those that stand for themselves.
use Rattle.std.proofs.Common.{◌≡◌, ℕ, zero, suc, ◌<◌, true, List, [], ◌∷◌, ◌++◌, length, get_or, flat_map, IsAscii, refl, ap, ◌∙◌, append-nil, arith, lit<}
use Rattle.std.proofs.lemmas.Bool.Decides.{nat_tests}
use Rattle.std.proofs.lemmas.Grind.{flat_map-append}
use Rattle.std.proofs.lemmas.Str.{chars-IsAscii, encode_ascii}
use Rattle.line_text.specs.Strings.{escaped, escape_text, is_plain}

-- one more character
pub escaped-more : (cs : List ℕ) (c : ℕ) → flat_map escape_text (cs ++ c ∷ []) ≡ flat_map escape_text cs ++ escape_text c
escaped-more cs c = flat_map-append escape_text cs (c ∷ []) ∙ ap (λ bs. flat_map escape_text cs ++ bs) (append-nil (escape_text c))

plain-ascii : (byte : ℕ) → is_plain byte ≡ true → byte < 128
plain-ascii byte plain = grind (arith, nat_tests)

escape-plain : (byte : ℕ) → is_plain byte ≡ true → escape_text byte ≡ byte ∷ []
unfolding escape_text
escape-plain byte plain = grind (arith, nat_tests, encode_ascii byte (plain-ascii byte plain))

plain-list : (bs : List ℕ) → ((k : ℕ) → k < length bs → is_plain (get_or bs k 0) ≡ true) → flat_map escape_text bs ≡ bs
plain-list [] plain = refl
plain-list (b ∷ bs) plain =
    let here : escape_text b ≡ b ∷ [] = escape-plain b (plain 0 (omega arith)) in
    let later : flat_map escape_text bs ≡ bs = plain-list bs (λ k in_it. plain (suc k) (omega arith)) in
    rw (here, later)

ascii-of : (bs : List ℕ) → ((k : ℕ) → k < length bs → is_plain (get_or bs k 0) ≡ true) → IsAscii bs
ascii-of [] plain i = lit< tt
ascii-of (b ∷ bs) plain zero = plain-ascii b (plain 0 (omega arith))
ascii-of (b ∷ bs) plain (suc i) = ascii-of bs (λ k in_it. plain (suc k) (omega arith)) i

-- a text of such bytes stands for itself
pub escaped_plain : (text : List ℕ) → ((k : ℕ) → k < length text → is_plain (get_or text k 0) ≡ true) → escaped text ≡ text
unfolding escaped
escaped_plain text plain =
    let ascii : IsAscii text = ascii-of text plain in
    ap (λ cs. flat_map escape_text cs) (chars-IsAscii text ascii) ∙ plain-list text plain
