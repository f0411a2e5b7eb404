-- The tokens of a line of assembly.
use Rattle.std.specs.Prelude.{ℕ, zero, suc, ◌+◌, ◌-◌, ◌==◌, ◌||◌, ◌&&◌, Bool, false, nat_eq, if◌then◌else◌, List, [], ◌∷◌, Option, Some, None, Result, Ok, Err, take, drop, codes, option_map}
use Rattle.std.specs.Char.{is_ascii_alphanumeric, is_ascii_digit}
use Rattle.std.specs.List.{prefix_len, starts_with}
use Rattle.std.specs.Option.{ok_or}
use Rattle.bpf_asm.specs.Types.{Token, Front, Cause, BadByte, BadNumber, LongLabel}
use Rattle.bpf_asm.specs.Types.tokens
use Rattle.bpf_asm.specs.Types.fronts
use Rattle.bpf_asm.specs.Words.{keyword_of, label_of, sign_of}
use Rattle.bpf_asm.specs.Numbers.{decimal_of, number_of}

-- space, tab, carriage return
abbrev pub is_blank : ℕ → Bool
is_blank b = b == 32 || b == 9 || b == 13

-- letters, digits, `_`, `%` and `-`
abbrev pub is_word_byte : ℕ → Bool
is_word_byte b = is_ascii_alphanumeric b || b == 95 || b == 37 || b == 45

-- the text begins with a byte of this class
abbrev pub begins : (ℕ → Bool) → List ℕ → Bool
begins class [] = false
begins class (b ∷ bs) = class b

-- the first value, where there is one
abbrev pub found_or : {A E : Type 0} → Option A → Result A E → Result A E
found_or (Some x) other = Ok x
found_or None other = other

-- what a word is: a keyword, or a number where it begins with a digit or `-`, or a label
abbrev pub word_of : List ℕ → Result Token Cause
word_of run =
    found_or (keyword_of run)
    (if begins (λ b. is_ascii_digit b || b == 45) run then ok_or (option_map tokens.Number (number_of run)) BadNumber
    else ok_or (option_map tokens.Label (label_of run)) LongLabel)

-- how many bytes lead past the first `*/`
abbrev pub past_close : List ℕ → Option ℕ
past_close [] = None
past_close (b ∷ bs) = if starts_with nat_eq (b ∷ bs) (codes "*/") then Some 2 else option_map (λ n. n + 1) (past_close bs)

-- a comment, whose `/*` stands at the front, is blank
abbrev pub comment_of : Option ℕ → Front
comment_of (Some n) = fronts.Blank (n + 2)
comment_of None = fronts.Stuck BadByte

abbrev pub comment_at : List ℕ → Front
comment_at text = comment_of (past_close (drop 2 text))

-- the longest run of bytes of a word is a word
abbrev pub run_of : ℕ → Result Token Cause → Front
run_of n (Ok token) = fronts.Token token n
run_of n (Err cause) = fronts.Stuck cause

abbrev pub run_at : List ℕ → Front
run_at text = run_of (prefix_len is_word_byte text) (word_of (take (prefix_len is_word_byte text) text))

-- the digits after a `(` are the place of an instruction, which is decimal
abbrev pub place_of : ℕ → Option ℕ → Front
place_of n (Some place) = fronts.Token (tokens.Place place) (n + 1)
place_of n None = fronts.Stuck BadNumber

abbrev pub place_at : List ℕ → Front
place_at text =
    let digits = drop 1 text in
    place_of (prefix_len is_ascii_digit digits) (decimal_of (take (prefix_len is_ascii_digit digits) digits))

-- any other byte is a sign
abbrev pub sign_or : Option Token → Front
sign_or (Some token) = fronts.Token token 1
sign_or None = fronts.Stuck BadByte

abbrev pub sign_at : ℕ → Front
sign_at byte = sign_or (sign_of byte)

-- What stands at the front of a text. At `;` a comment goes on to the end of the line.
unfoldable pub front : List ℕ → Front
front [] = fronts.End
front (b ∷ bs) =
    if b == 59 then fronts.End
    else (if is_blank b then fronts.Blank 1
    else (if starts_with nat_eq (b ∷ bs) (codes "/*") then comment_at (b ∷ bs)
    else (if is_word_byte b then run_at (b ∷ bs)
    else (if b == 40 && begins is_ascii_digit bs then place_at (b ∷ bs)
    else sign_at b))))

-- a token before others
abbrev pub onto : {A E : Type 0} → A → Result (List A) E → Result (List A) E
onto x (Ok xs) = Ok (x ∷ xs)
onto x (Err e) = Err e

-- what follows from what is at the front of a text; `rest` says what follows past this many more bytes
abbrev pub after : Front → (ℕ → Result (List Token) Cause) → Result (List Token) Cause
after fronts.End rest = Ok []
after (fronts.Blank n) rest = rest (n - 1)
after (fronts.Token token n) rest = onto token (rest (n - 1))
after (fronts.Stuck cause) rest = Err cause

-- the tokens of a text past its first n bytes, from the left; or why there are none
abbrev pub lexed : ℕ → List ℕ → Result (List Token) Cause
lexed n [] = Ok []
lexed (suc n) (b ∷ bs) = lexed n bs
lexed zero (b ∷ bs) = after (front (b ∷ bs)) (λ n. lexed n bs)
