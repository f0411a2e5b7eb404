-- Texts that are read as tokens, from the right.
use Rattle.std.proofs.Common.{◌≡◌, ℕ, zero, suc, ◌+◌, ◌-◌, ◌<◌, ◌≤◌, ◌^◌, Bool, true, false, not, ◌&&◌, ◌||◌, List, [], ◌∷◌, ◌++◌, Option, Some, None, Result, Ok, length, take, replicate, nat_eq, refl, sym, ap, ◌∙◌, subst, arith, ◌==◌, if◌then◌else◌, length-append, append_assoc}
use Rattle.std.specs.Prelude.{nat_lt, nat_le, codes, option_map}
use Rattle.std.specs.Option.{ok_or}
use Rattle.std.specs.Char.{is_ascii_digit}
use Rattle.std.specs.Fmt.{decimal, digits}
use Rattle.std.specs.List.{list_all, prefix_len, find}
use Rattle.std.specs.Str.{bytes_eq}
use Rattle.std.specs.Str.Parse.{AllDigits}
use Rattle.std.proofs.Math.Seq.{take-append_seam}
use Rattle.std.proofs.lemmas.Bool.{eqb-true, ltb-false, leb-true}
use Rattle.std.proofs.lemmas.List.{append-nil, length-replicate}
use Rattle.std.proofs.lemmas.List.Folds.{list_all-append}
use Rattle.std.proofs.lemmas.Fmt.{length-decimal-le}
use Rattle.bpfvm.specs.Images.{signed, hexadecimal, column, three_digits}
use Rattle.bpf_asm.specs.Types.{Token, Cause, BadNumber, LongLabel}
use Rattle.bpf_asm.specs.Types.tokens
use Rattle.bpf_asm.specs.Types.fronts
use Rattle.bpf_asm.specs.Words.{Entry, keywords, keyword_of, label_of}
use Rattle.bpf_asm.specs.Numbers.{decimal_of, number_of}
use Rattle.bpf_asm.specs.Tokens.{is_blank, is_word_byte, begins, found_or, word_of, run_at, run_of, place_at, place_of, front, after, onto, lexed}
use Rattle.bpf_asm.specs.Assembly.{is_line_feed}
use Rattle.bpf_asm.proofs.Digits.{both_true, not_true, of_digits, of_ten, length-digits, decimal_digits, decimal_some, hexadecimal_digits, number_of-decimal, number_of-negative, number_of-hexadecimal, place_all, length-place, decimal_of-place}

-- ---- Runs

-- a run ends where its bytes do
prefix_run : (p : ℕ → Bool) (ds rest : List ℕ) → list_all p ds ≡ true → begins p rest ≡ false → prefix_len p (ds ++ rest) ≡ length ds
prefix_run p [] [] all ends = refl
prefix_run p [] (b ∷ rest) all ends = rw ends refl
prefix_run p (c ∷ cs) rest all ends =
    let both = both_true (p c) (list_all p cs) all in
    rw (both.0, prefix_run p cs rest both.1 ends) (omega arith)

lexed_skip : (ds rest : List ℕ) → lexed (length ds) (ds ++ rest) ≡ lexed 0 rest
lexed_skip [] rest = refl
lexed_skip (d ∷ ds) rest = lexed_skip ds rest

-- a token of these bytes is the first one
token_first : (b : ℕ) (bs rest : List ℕ) (token : Token) → front (b ∷ (bs ++ rest)) ≡ fronts.Token token (length (b ∷ bs)) → lexed 0 (b ∷ (bs ++ rest)) ≡ onto token (lexed 0 rest)
token_first b bs rest token is =
    let one : length (b ∷ bs) - 1 ≡ length bs = omega arith in
    ap (λ f. after f (λ n. lexed n (bs ++ rest))) is ∙ ap (onto token) (ap (λ n. lexed n (bs ++ rest)) one ∙ lexed_skip bs rest)

-- with this byte a word or a number begins
abbrev pub starts : ℕ → Bool
starts b = not (b == 59) && (not (is_blank b) && (not (nat_eq 47 b) && is_word_byte b))

front-run : (b : ℕ) (bs : List ℕ) → starts b ≡ true → front (b ∷ bs) ≡ run_at (b ∷ bs)
unfolding front
front-run b bs is =
    let one = both_true (not (b == 59)) (not (is_blank b) && (not (nat_eq 47 b) && is_word_byte b)) is in
    let two = both_true (not (is_blank b)) (not (nat_eq 47 b) && is_word_byte b) one.1 in
    let three = both_true (not (nat_eq 47 b)) (is_word_byte b) two.1 in
    rw (not_true (b == 59) one.0, not_true (is_blank b) two.0, not_true (nat_eq 47 b) three.0, three.1) refl

-- a run of bytes of a word is the token that it is
run_first : (b : ℕ) (bs rest : List ℕ) (token : Token) → starts b ≡ true → list_all is_word_byte (b ∷ bs) ≡ true → begins is_word_byte rest ≡ false → word_of (b ∷ bs) ≡ Ok token → lexed 0 (b ∷ (bs ++ rest)) ≡ onto token (lexed 0 rest)
run_first b bs rest token s all ends is =
    let run : run_at (b ∷ (bs ++ rest)) ≡ fronts.Token token (length (b ∷ bs)) =
    ap (λ n. run_of n (word_of (take n (b ∷ (bs ++ rest))))) (prefix_run is_word_byte (b ∷ bs) rest all ends)
    ∙ ap (λ w. run_of (length (b ∷ bs)) (word_of w)) (take-append_seam (b ∷ bs) rest) ∙ ap (run_of (length (b ∷ bs))) is in
    token_first b bs rest token (front-run b (bs ++ rest) s ∙ run)

-- ---- Texts within a line

-- no line ends here
abbrev pub in_line : ℕ → Bool
in_line b = not (is_line_feed b)

word_in_line : (b : ℕ) → is_word_byte b ≡ true → in_line b ≡ true
word_in_line b is = at_test (b == 10) refl
  where
    at_test : (feed : Bool) → (b == 10) ≡ feed → not feed ≡ true
    at_test false other = refl
    at_test true same = let wrong : is_word_byte 10 ≡ true = subst (λ c. is_word_byte c ≡ true) (eqb-true b 10 same) is in absurd cc

words_in_line : (bs : List ℕ) → list_all is_word_byte bs ≡ true → list_all in_line bs ≡ true
words_in_line [] all = refl
words_in_line (b ∷ bs) all =
    let both = both_true (is_word_byte b) (list_all is_word_byte bs) all in
    rw (word_in_line b both.0, words_in_line bs both.1) refl

-- the text is part of a line, of at most this many bytes, and is read as these tokens
pub record Spells (text : List ℕ) (ts : List Token) (most : ℕ) : Type 0 where
  pub lexes : lexed 0 text ≡ Ok ts
  pub flat : list_all in_line text ≡ true
  pub short : length text ≤ most

pub spells_end : Spells [] [] 0
spells_end = record { lexes = refl; flat = refl; short = omega arith }

pub spells_wide : {text : List ℕ} {ts : List Token} {m : ℕ} (most : ℕ) → Spells text ts m → m ≤ most → Spells text ts most
spells_wide most s fits = record { lexes = s.lexes; flat = s.flat; short = omega (arith, s.short, fits) }

-- tokens before others
abbrev pub all_onto : List Token → Result (List Token) Cause → Result (List Token) Cause
all_onto [] r = r
all_onto (t ∷ ts) r = onto t (all_onto ts r)

all_onto-ok : (ts ks : List Token) → all_onto ts (Ok ks) ≡ Ok (ts ++ ks)
all_onto-ok [] ks = refl
all_onto-ok (t ∷ ts) ks = ap (onto t) (all_onto-ok ts ks)

-- bytes before a text, which are these tokens whatever follows
pub bytes_then : (w : List ℕ) (ts : List Token) {rest : List ℕ} {ks : List Token} {m : ℕ} → Spells rest ks m → lexed 0 (w ++ rest) ≡ all_onto ts (lexed 0 rest) → list_all in_line w ≡ true → Spells (w ++ rest) (ts ++ ks) (length w + m)
bytes_then w ts {rest} {ks} {m} s is flat = record {
  lexes = is ∙ ap (all_onto ts) s.lexes ∙ all_onto-ok ts ks;
  flat = list_all-append in_line w rest ∙ rw (flat, s.flat) refl;
  short = omega (arith, length-append w rest, s.short);
}

blanks_all : (n : ℕ) → list_all in_line (replicate n 32) ≡ true
blanks_all zero = refl
blanks_all (suc n) = blanks_all n

blanks_skip : (n : ℕ) (rest : List ℕ) → lexed 0 (replicate n 32 ++ rest) ≡ lexed 0 rest
unfolding front
blanks_skip zero rest = refl
blanks_skip (suc n) rest = blanks_skip n rest

-- blanks before it
pub blanks_then : (n : ℕ) {rest : List ℕ} {ks : List Token} {m : ℕ} → Spells rest ks m → Spells (replicate n 32 ++ rest) ks (n + m)
blanks_then n {rest} {ks} {m} s = record {
  lexes = blanks_skip n rest ∙ s.lexes;
  flat = list_all-append in_line (replicate n 32) rest ∙ rw (blanks_all n, s.flat) refl;
  short = omega (arith, length-append (replicate n 32) rest, length-replicate {A = ℕ} n 32, s.short);
}

-- ---- Numbers

-- no keyword begins with this byte
abbrev apart : ℕ → List Entry → Bool
apart b table = list_all (λ entry. not (begins (λ c. c == b) entry.0)) table

apart_none : (b : ℕ) (bs : List ℕ) (table : List Entry) → apart b table ≡ true → find (λ entry. bytes_eq entry.0 (b ∷ bs)) table ≡ None
apart_none b bs [] e = refl
apart_none b bs (entry ∷ table) e =
    let both = both_true (not (begins (λ c. c == b) entry.0)) (apart b table) e in
    rw (other entry.0 both.0, apart_none b bs table both.1) refl
  where
    other : (w : List ℕ) → not (begins (λ c. c == b) w) ≡ true → bytes_eq w (b ∷ bs) ≡ false
    other [] h = refl
    other (c ∷ cs) h = rw (not_true (c == b) h) refl

-- with this byte a number begins
abbrev starts_number : ℕ → Bool
starts_number b = (is_ascii_digit b || b == 45) && starts b

word_number : (b : ℕ) (bs : List ℕ) (n : ℕ) → (is_ascii_digit b || b == 45) ≡ true → apart b keywords ≡ true → number_of (b ∷ bs) ≡ Some n → word_of (b ∷ bs) ≡ Ok (tokens.Number n)
word_number b bs n digit e is =
    let none : keyword_of (b ∷ bs) ≡ None = rw (apart_none b bs keywords e) refl in
    let number_or : Bool → Option ℕ → Result Token Cause = λ test o. if test then ok_or (option_map tokens.Number o) BadNumber else ok_or (option_map tokens.Label (label_of (b ∷ bs))) LongLabel in
    ap (λ o. found_or o (number_or (is_ascii_digit b || b == 45) (number_of (b ∷ bs)))) none
    ∙ ap (λ test. number_or test (number_of (b ∷ bs))) digit ∙ ap (λ o. number_or true o) is

-- the text is a number, of at most this many bytes
pub record NumberText (text : List ℕ) (n most : ℕ) : Type 0 where
  pub lexes : (rest : List ℕ) → begins is_word_byte rest ≡ false → lexed 0 (text ++ rest) ≡ onto (tokens.Number n) (lexed 0 rest)
  pub flat : list_all in_line text ≡ true
  pub short : length text ≤ most

number_text : (b : ℕ) (bs : List ℕ) (n most : ℕ) → starts_number b ≡ true → apart b keywords ≡ true → list_all is_word_byte (b ∷ bs) ≡ true → number_of (b ∷ bs) ≡ Some n → length (b ∷ bs) ≤ most → NumberText (b ∷ bs) n most
number_text b bs n most s e all is fits =
    let both = both_true (is_ascii_digit b || b == 45) (starts b) s in
    record {
      lexes = λ rest ends. run_first b bs rest (tokens.Number n) both.1 all ends (word_number b bs n both.0 e is);
      flat = words_in_line (b ∷ bs) all;
      short = fits;
    }

digits_text : (ds : List ℕ) (n most : ℕ) → 0 < length ds → AllDigits 10 ds → number_of ds ≡ Some n → length ds ≤ most → NumberText ds n most
unfolding keywords
digits_text [] n most some all is fits = absurd (omega arith)
digits_text (c ∷ cs) n most some all is fits =
    number_text c cs n most (of_ten starts_number refl c all.0) (of_ten (λ b. apart b keywords) refl c all.0) (of_digits is_word_byte 10 (omega arith) refl (c ∷ cs) all) is fits

pub decimal_text : (n most : ℕ) → n < 2 ^ 32 → 0 < most → n < 10 ^ most → NumberText (decimal n) n most
decimal_text n most small some fits =
    digits_text (decimal n) n most (decimal_some n small) (decimal_digits n small) (number_of-decimal n small) (length-decimal-le most n some fits (omega arith))

negative_text : (n : ℕ) → 2 ^ 31 ≤ n → n < 2 ^ 32 → NumberText (45 ∷ decimal (2 ^ 32 - n)) n 11
unfolding keywords
negative_text n great small =
    let magnitude : 2 ^ 32 - n < 2 ^ 32 = omega arith in
    let all : list_all is_word_byte (45 ∷ decimal (2 ^ 32 - n)) ≡ true = of_digits is_word_byte 10 (omega arith) refl (decimal (2 ^ 32 - n)) (decimal_digits (2 ^ 32 - n) magnitude) in
    number_text 45 (decimal (2 ^ 32 - n)) n 11 refl refl all (number_of-negative n great small) (omega (arith, length-decimal-le 10 (2 ^ 32 - n) (omega arith) (omega arith) (omega arith)))

pub signed_text : (n : ℕ) → n < 2 ^ 32 → NumberText (signed n) n 11
signed_text n small = at_test (nat_lt n (2 ^ 31)) refl
  where
    at_test : (b : Bool) → nat_lt n (2 ^ 31) ≡ b → NumberText (if b then decimal n else codes "-" ++ decimal (2 ^ 32 - n)) n 11
    at_test true less = decimal_text n 11 small (omega arith) (omega arith)
    at_test false more = let great = ltb-false n (2 ^ 31) more in negative_text n (omega arith) small

pub hexadecimal_text : (n : ℕ) → n < 2 ^ 32 → NumberText (hexadecimal n) n 66
unfolding keywords
hexadecimal_text n small =
    let all : list_all is_word_byte (48 ∷ 120 ∷ digits 16 false n) ≡ true = of_digits is_word_byte 16 (omega arith) refl (digits 16 false n) (hexadecimal_digits n small) in
    number_text 48 (120 ∷ digits 16 false n) n 66 refl refl all (number_of-hexadecimal n small) (omega (arith, length-digits 16 false n))

-- a number before a text, which goes on with no byte of a word
pub number_then : {w : List ℕ} {n most : ℕ} {rest : List ℕ} {ks : List Token} {m : ℕ} → NumberText w n most → Spells rest ks m → begins is_word_byte rest ≡ false → Spells (w ++ rest) (tokens.Number n ∷ ks) (most + m)
number_then {w} {n} {most} {rest} {ks} {m} t s ends = record {
  lexes = t.lexes rest ends ∙ ap (onto (tokens.Number n)) s.lexes;
  flat = list_all-append in_line w rest ∙ rw (t.flat, s.flat) refl;
  short = omega (arith, length-append w rest, t.short, s.short);
}

-- or at its end
pub number_last : {w : List ℕ} {n most : ℕ} → NumberText w n most → Spells w (tokens.Number n ∷ []) most
number_last {w} {n} {most} t = record { lexes = ap (lexed 0) (sym (append-nil w)) ∙ t.lexes [] refl; flat = t.flat; short = t.short }

-- ---- Names

-- a word in a column of eight
abbrev pub is_name : List ℕ → Bool
is_name w = nat_le (length w) 8 && (begins starts w && list_all is_word_byte w)

name_then' : (w : List ℕ) (token : Token) (n : ℕ) {rest : List ℕ} {ks : List Token} {m : ℕ} → begins starts w ≡ true → list_all is_word_byte w ≡ true → keyword_of w ≡ Some token → Spells rest ks m → Spells (w ++ replicate n 32 ++ codes " " ++ rest) (token ∷ ks) (length w + n + 1 + m)
name_then' [] token n first all word s = absurd cc
name_then' (b ∷ bs) token n {rest} {ks} {m} first all word s =
    let found : word_of (b ∷ bs) ≡ Ok token = rw word refl in
    let blank : Spells (codes " " ++ rest) ks (1 + m) = blanks_then 1 s in
    let blanks : Spells (replicate n 32 ++ (codes " " ++ rest)) ks (n + (1 + m)) = blanks_then n blank in
    let text : (b ∷ bs) ++ replicate n 32 ++ codes " " ++ rest ≡ b ∷ (bs ++ (replicate n 32 ++ (codes " " ++ rest))) =
    append_assoc ((b ∷ bs) ++ replicate n 32) (codes " ") rest ∙ append_assoc (b ∷ bs) (replicate n 32) (codes " " ++ rest) in
    subst (λ t. Spells t (token ∷ ks) (length (b ∷ bs) + n + 1 + m)) (sym text) (record {
      lexes = run_first b bs (replicate n 32 ++ (codes " " ++ rest)) token first all (ends n) found ∙ ap (onto token) blanks.lexes;
      flat = list_all-append in_line (b ∷ bs) (replicate n 32 ++ (codes " " ++ rest)) ∙ rw (words_in_line (b ∷ bs) all, blanks.flat) refl;
      short = omega (arith, length-append (b ∷ bs) (replicate n 32 ++ (codes " " ++ rest)), blanks.short);
    })
  where
    ends : (z : ℕ) → begins is_word_byte (replicate z 32 ++ (codes " " ++ rest)) ≡ false
    ends zero = refl
    ends (suc z) = refl

-- a name in its column, before a text
pub name_then : (w : List ℕ) (token : Token) {rest : List ℕ} {ks : List Token} {m : ℕ} → is_name w ≡ true → keyword_of w ≡ Some token → Spells rest ks m → Spells (column 8 w ++ codes " " ++ rest) (token ∷ ks) (9 + m)
name_then w token {rest} {ks} {m} is word s =
    let both = both_true (nat_le (length w) 8) (begins starts w && list_all is_word_byte w) is in
    let parts = both_true (begins starts w) (list_all is_word_byte w) both.1 in
    let fits = leb-true (length w) 8 both.0 in
    spells_wide (9 + m) (name_then' w token (8 - length w) parts.0 parts.1 word s) (omega (arith, fits))

-- ---- Places

place_front : (bs : List ℕ) → begins is_ascii_digit bs ≡ true → front (40 ∷ bs) ≡ place_at (40 ∷ bs)
unfolding front
place_front bs digit = rw digit refl

begins_first : (p : ℕ → Bool) (ds rest : List ℕ) → 0 < length ds → list_all p ds ≡ true → begins p (ds ++ rest) ≡ true
begins_first p [] rest some all = absurd (omega arith)
begins_first p (d ∷ ds) rest some all = (both_true (p d) (list_all p ds) all).0

-- a place before a text, which goes on with no digit
pub place_then : (place : ℕ) {rest : List ℕ} {ks : List Token} {m : ℕ} → place < 1000 → Spells rest ks m → begins is_ascii_digit rest ≡ false → Spells (40 ∷ (three_digits place ++ rest)) (tokens.Place place ∷ ks) (4 + m)
place_then place {rest} {ks} {m} small s ends =
    let ds = three_digits place in
    let all : list_all is_ascii_digit ds ≡ true = place_all place small is_ascii_digit refl refl in
    let flat : list_all in_line ds ≡ true = place_all place small in_line refl refl in
    let three = length-place place small in
    let is : place_at (40 ∷ (ds ++ rest)) ≡ fronts.Token (tokens.Place place) (length (40 ∷ ds)) =
    ap (λ n. place_of n (decimal_of (take n (ds ++ rest)))) (prefix_run is_ascii_digit ds rest all ends)
    ∙ ap (λ w. place_of (length ds) (decimal_of w)) (take-append_seam ds rest) ∙ ap (place_of (length ds)) (decimal_of-place place small)
    ∙ ap (fronts.Token (tokens.Place place)) (omega arith) in
    record {
      lexes = token_first 40 ds rest (tokens.Place place) (place_front (ds ++ rest) (begins_first is_ascii_digit ds rest (omega (arith, three)) all) ∙ is) ∙ ap (onto (tokens.Place place)) s.lexes;
      flat = list_all-append in_line ds rest ∙ rw (flat, s.flat) refl;
      short = omega (arith, length-append ds rest, three, s.short);
    }
