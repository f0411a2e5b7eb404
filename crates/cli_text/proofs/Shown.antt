-- What is shown of a path, character after character.
use Rattle.std.proofs.Common.{◌≡◌, ℕ, List, [], ◌∷◌, ◌++◌, length, take, drop, flat_map, encode_utf8, encode_utf8_all, ap, ◌∙◌, subst, append-nil}
use Rattle.std.proofs.lemmas.Grind.{flat_map-append}
use Rattle.std.proofs.lemmas.Iterator.{YieldsList}
use Rattle.std.proofs.lemmas.Iterator.Consumers.{YieldsList-from_shown}
use Rattle.std.proofs.lemmas.Str.{encodes-append}
use Rattle.std.specs.Char.Iter.{escape_rest, escape_steps}
use Rattle.cli_text.specs.Paths.{shown_characters}

-- one more character in UTF-8
pub encoded-more : (cs : List ℕ) (c : ℕ) → encode_utf8_all (cs ++ c ∷ []) ≡ encode_utf8_all cs ++ encode_utf8 c
encoded-more cs c = encodes-append cs (c ∷ []) ∙ ap (λ bs. encode_utf8_all cs ++ bs) (append-nil (encode_utf8 c))

-- one more character as it is shown
pub shown-more : (cs : List ℕ) (c : ℕ)
    → encode_utf8_all (flat_map shown_characters (cs ++ c ∷ []))
    ≡ encode_utf8_all (flat_map shown_characters cs) ++ encode_utf8_all (shown_characters c)
shown-more cs c =
    ap encode_utf8_all (flat_map-append shown_characters cs (c ∷ []) ∙ ap (λ ds. flat_map shown_characters cs ++ ds) (append-nil (shown_characters c)))
    ∙ encodes-append (flat_map shown_characters cs) (shown_characters c)

-- the iterator over an escape gives what is left of it
pub escape-yields : (s : _) (cs : List ℕ) → escape_rest s ≡ cs → YieldsList escape_steps (λ c. c) s cs
escape-yields s cs is = subst (YieldsList escape_steps (λ c. c) s) is
    (YieldsList-from_shown escape_steps (λ c. c) escape_rest (λ t u step. ap (λ n. length (take n (drop t.from t.chars))) step.1.0) (λ t c u step. step.1.0) s)
