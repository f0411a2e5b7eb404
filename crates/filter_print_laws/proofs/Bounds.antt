-- What the tokens of a text hold is within its bounds.
use Rattle.std.proofs.Common.{◌≡◌, ℕ, zero, suc, ◌+◌, ◌<◌, ◌≤◌, Bool, true, false, ◌||◌, ◌==◌, List, [], ◌∷◌, Option, Some, None, Result, Ok, Err, length, drop, get_or, nat_lt, nat_le, refl, subst, arith, ltb-true, leb-true}
use Rattle.std.specs.Prelude.{IfSome, IfOk, option_map, option_and_then, if◌then◌else◌, ◌^◌}
use Rattle.std.specs.Char.{is_ascii_digit, is_ascii_alphabetic}
use Rattle.std.specs.Int.{w32, from_be_bytes}
use Rattle.std.specs.Option.{ok_or}
use Rattle.std.specs.List.{find, list_all, slice_split, list_any}
use Rattle.std.proofs.lemmas.Bool.{eqb-true}
use Rattle.filterlang.specs.declared.token.Kind.{Kind}
use Rattle.filterlang.specs.declared.token.Kind.TheVariants as kind
use Rattle.filterlang.specs.declared.token.Token.{Token}
use Rattle.filterlang.specs.declared.lexer.Cause.{Cause}
use Rattle.filterlang.specs.declared.lexer.Cause.TheVariants.{BadByte, BadWord, BadNumber}
use Rattle.filterlang.specs.Words.{Entry, words, names, signs, begins, whole_word, standing, stands, stands_whole, token_of}
use Rattle.filterlang.specs.Numbers.{run_at, at_most, numeral, number_of, octet, octets, dotted, dotted_of, number_or_dotted_at, ethernet, ethernet_of, ethernet_at}
use Rattle.filterlang.specs.Tokens.{is_blank, found_or, token_at, front, front_of, Lexes, lexes_end, lexes_blank, lexes_token}
use Rattle.filterlang.specs.Phrases.{kinds}
use Rattle.std.specs.Prelude.{codes}
use Rattle.std.specs.List.{starts_with}
use Rattle.std.proofs.Common.{nat_eq, cond}
use Rattle.filter_print_laws.proofs.Basics.{both_true}
use Rattle.filter_print_laws.proofs.Terms.{either_of}

-- numbers and addresses have at most 32 bits, and Ethernet addresses six octets
abbrev pub IsToken : Kind → Type 0
IsToken (kind.Number n) = n < 2 ^ 32
IsToken (kind.Named n) = n < 2 ^ 32
IsToken (kind.Dotted a parts) = a < 2 ^ 32
IsToken (kind.Ethernet a) = (length a.octets ≡ 6) × ((i : ℕ) → get_or a.octets i 0 < 256)
IsToken _ = Unit {0}

-- all of these are
abbrev pub AreTokens : List Kind → Type 0
AreTokens [] = Unit {0}
AreTokens (k ∷ ks) = IsToken k × AreTokens ks

-- what is made of a value that is there
pub some_map : {A B : Type 0} (f : A → B) (P : A → Type 0) (R : B → Type 0) (o : Option A) → IfSome o P → ((x : A) → P x → R (f x)) → IfSome (option_map f o) R
some_map f P R None h next = tt
some_map f P R (Some x) h next = next x h

-- or of one that may be there
pub some_then : {A B : Type 0} (f : A → Option B) (P : A → Type 0) (R : B → Type 0) (o : Option A) → IfSome o P → ((x : A) → P x → IfSome (f x) R) → IfSome (option_and_then f o) R
some_then f P R None h next = tt
some_then f P R (Some x) h next = next x h

-- a number is at most its limit
within_limit : (limit : ℕ) (o : Option ℕ) → IfSome (at_most limit o) (λ n. n ≤ limit)
within_limit limit None = tt
within_limit limit (Some n) = either_of (λ r. IfSome r (λ m. m ≤ limit)) (nat_le n limit) (Some n) None (λ e. leb-true n limit e) (λ e. tt)

-- a part of an address is an octet
octet_small : (base most : ℕ) (part : List ℕ) → IfSome (octet base most part) (λ n. n < 256)
octet_small base most part =
    either_of (λ r. IfSome r (λ n. n < 256)) (nat_le (length part) most) (at_most 255 (numeral base part)) None
    (λ e. weaker (at_most 255 (numeral base part)) (within_limit 255 (numeral base part))) (λ e. tt)
  where
    weaker : (o : Option ℕ) → IfSome o (λ n. n ≤ 255) → IfSome o (λ n. n < 256)
    weaker None h = tt
    weaker (Some n) h = omega arith

-- a number has 32 bits
number_small : (run : List ℕ) → IfSome (number_of run) (λ n. n ≤ 4294967295)
number_small run =
    within_limit 4294967295 (
    if starts_with nat_eq run (codes "0x") || starts_with nat_eq run (codes "0X") then numeral 16 (drop 2 run)
    else (if starts_with nat_eq run (codes "0") then numeral 8 run
    else numeral 10 run))

-- each octet is
abbrev AreOctets : List ℕ → Type 0
AreOctets ns = (i : ℕ) → get_or ns i 0 < 256

-- one octet more
one_more : (n : ℕ) (ns : List ℕ) → n < 256 → AreOctets ns → AreOctets (n ∷ ns)
one_more n ns small all zero = small
one_more n ns small all (suc i) = all i

-- none at all
none_yet : AreOctets []
none_yet i = omega arith

-- the parts of an address are octets
octets_small : (base most : ℕ) (parts : List (List ℕ)) → IfSome (octets base most parts) AreOctets
octets_small base most [] = none_yet
octets_small base most (part ∷ parts) =
    some_then (λ n. option_map (λ ns. n ∷ ns) (octets base most parts)) (λ n. n < 256) AreOctets (octet base most part) (octet_small base most part)
    (λ n small. some_map (λ ns. n ∷ ns) AreOctets AreOctets (octets base most parts) (octets_small base most parts) (λ ns all. one_more n ns small all))

-- an Ethernet address has six
ethernet_token : (text : List ℕ) → IfSome (ethernet_at text) (λ t. IsToken t.0)
unfolding ethernet_at
ethernet_token text =
    some_map (λ k. (k, length (run_at 58 text))) IsToken (λ t. IsToken t.0) (ethernet_of (run_at 58 text))
    (some_then ethernet AreOctets IsToken (octets 16 2 (slice_split (λ b. b == 58) (run_at 58 text))) (octets_small 16 2 (slice_split (λ b. b == 58) (run_at 58 text))) six) (λ k is. is)
  where
    six : (ns : List ℕ) → AreOctets ns → IfSome (ethernet ns) IsToken
    six ns all = either_of (λ r. IfSome r IsToken) (length ns == 6) (Some (kind.Ethernet (record { octets = ns }))) None (λ e. (eqb-true (length ns) 6 e, all)) (λ e. tt)

-- four octets are an address of 32 bits
four : (a b c d : ℕ) → a < 256 → b < 256 → c < 256 → d < 256 → from_be_bytes w32 (a ∷ b ∷ c ∷ d ∷ []) < 2 ^ 32
four a b c d la lb lc ld = omega arith

-- so a dotted address has 32 bits
dotted_small : (ns : List ℕ) → AreOctets ns → IfSome (dotted ns) IsToken
dotted_small [] all = tt
dotted_small (a ∷ []) all = tt
dotted_small (a ∷ b ∷ []) all = four a b 0 0 (all 0) (all 1) (omega arith) (omega arith)
dotted_small (a ∷ b ∷ c ∷ []) all = four a b c 0 (all 0) (all 1) (all 2) (omega arith)
dotted_small (a ∷ b ∷ c ∷ d ∷ []) all = four a b c d (all 0) (all 1) (all 2) (all 3)
dotted_small (a ∷ b ∷ c ∷ d ∷ e ∷ ns) all = tt

-- a number or a dotted address
number_token : (text : List ℕ) → IfSome (number_or_dotted_at text) (λ t. IsToken t.0)
unfolding number_or_dotted_at
number_token text =
    some_map (λ k. (k, length run)) IsToken (λ t. IsToken t.0) (if list_any (λ b. b == 46) run then dotted_of run else option_map kind.Number (number_of run))
    (either_of (λ r. IfSome r IsToken) (list_any (λ b. b == 46) run) (dotted_of run) (option_map kind.Number (number_of run))
    (λ e. some_then dotted AreOctets IsToken (octets 10 3 (slice_split (λ b. b == 46) run)) (octets_small 10 3 (slice_split (λ b. b == 46) run)) dotted_small)
    (λ e. some_map kind.Number (λ n. n ≤ 4294967295) IsToken (number_of run) (number_small run) (λ n le. omega arith)))
    (λ k is. is)
  where
    run : List ℕ
    run = run_at 46 text

-- words, names and signs
abbrev is_word : Kind → Bool
is_word (kind.Number n) = false
is_word (kind.Named n) = nat_lt n 4294967296
is_word (kind.Dotted a parts) = false
is_word (kind.Ethernet a) = false
is_word _ = true

-- they hold no number, or a small one
word_is : (k : Kind) → is_word k ≡ true → IsToken k
word_is (kind.Number n) e = absurd cc
word_is (kind.Named n) e = ltb-true n 4294967296 e
word_is (kind.Dotted a parts) e = absurd cc
word_is (kind.Ethernet a) e = absurd cc
word_is k e = tt

-- what is found in a table has what each entry has
found_has : (p q : Entry → Bool) (table : List Entry) (x : Entry) → list_all q table ≡ true → find p table ≡ Some x → q x ≡ true
found_has p q [] x all e = absurd cc
found_has p q (y ∷ table) x all e = at_test (p y) (both_true (q y) (list_all q table) all) e (found_has p q table x)
  where
    at_test : (b : Bool) → (q y ≡ true) × (list_all q table ≡ true) → cond b (Some y) (find p table) ≡ Some x → (list_all q table ≡ true → find p table ≡ Some x → q x ≡ true) → q x ≡ true
    at_test true each e later = let same : y ≡ x = cc in subst (λ z. q z ≡ true) same each.0
    at_test false each e later = later each.1 e

-- so a word that is found is a token
found_token : (p : Entry → Bool) (table : List Entry) → list_all (λ x. is_word x.1) table ≡ true → IfSome (option_map token_of (find p table)) (λ t. IsToken t.0)
found_token p table all = by_found (find p table) refl
  where
    by_found : (o : Option Entry) → find p table ≡ o → IfSome (option_map token_of o) (λ t. IsToken t.0)
    by_found None e = tt
    by_found (Some x) e = word_is x.1 (found_has p (λ y. is_word y.1) table x all e)

-- the three tables have such words
words_words : list_all (λ x. is_word x.1) words ≡ true
unfolding words
words_words = refl

-- names
names_words : list_all (λ x. is_word x.1) names ≡ true
unfolding names
names_words = refl

-- and signs
signs_words : list_all (λ x. is_word x.1) signs ≡ true
unfolding signs
signs_words = refl

-- the token at the front of a text
or_else : {A : Type 0} (P : A → Type 0) (o : Option A) (r : Result A Cause) → IfSome o P → IfOk r P → IfOk (found_or o r) P
or_else P None r h k = k
or_else P (Some x) r h k = h

-- or why there is none
or_cause : {A : Type 0} (P : A → Type 0) (o : Option A) (c : Cause) → IfSome o P → IfOk (ok_or o c) P
or_cause P None c h = tt
or_cause P (Some x) c h = h

-- it is one of them
token_is : (text : List ℕ) → IfOk (token_at text) (λ t. IsToken t.0)
unfolding token_at
token_is text =
    or_else (λ t. IsToken t.0) (ethernet_at text) _ (ethernet_token text)
    (either_of (λ r. IfOk r (λ t. IsToken t.0)) (begins is_ascii_digit text) (ok_or (number_or_dotted_at text) BadNumber) _
    (λ e. or_cause (λ t. IsToken t.0) (number_or_dotted_at text) BadNumber (number_token text))
    (λ e. either_of (λ r. IfOk r (λ t. IsToken t.0)) (begins is_ascii_alphabetic text) (ok_or (whole_word words text) BadWord) _
    (λ f. or_cause (λ t. IsToken t.0) (whole_word words text) BadWord (found_token (λ x. stands_whole text x.0) words words_words))
    (λ f. either_of (λ r. IfOk r (λ t. IsToken t.0)) (begins (λ b. b == 92) text) (ok_or (option_map (λ name. (name.0, name.1 + 1)) (whole_word names (drop 1 text))) BadWord) (ok_or (standing signs text) BadByte)
    (λ g. or_cause (λ t. IsToken t.0) (option_map (λ name. (name.0, name.1 + 1)) (whole_word names (drop 1 text))) BadWord
    (some_map (λ name. (name.0, name.1 + 1)) (λ t. IsToken t.0) (λ t. IsToken t.0) (whole_word names (drop 1 text)) (found_token (λ x. stands_whole (drop 1 text) x.0) names names_words) (λ t is. is)))
    (λ g. or_cause (λ t. IsToken t.0) (standing signs text) BadByte (found_token (λ x. stands text x.0) signs signs_words)))))

-- a token that is found there
front_ok : (r : Result (Kind × ℕ) Cause) (k : Kind) (n : ℕ) → IfOk r (λ t. IsToken t.0) → front_of r ≡ front_of (Ok (k, n)) → IsToken k
front_ok (Ok t) k n is e = let same : t.0 ≡ k = cc in subst IsToken same is
front_ok (Err c) k n is e = absurd cc

-- at the front of a text
front_token : (text : List ℕ) (k : Kind) (n : ℕ) → front text ≡ front_of (Ok (k, n)) → IsToken k
unfolding front
front_token [] k n e = absurd cc
front_token (b ∷ rest) k n e =
    either_of (λ f. f ≡ front_of (Ok (k, n)) → IsToken k) (is_blank b) (front (32 ∷ [])) (front_of (token_at (b ∷ rest)))
    (λ blank h. absurd cc) (λ other h. front_ok (token_at (b ∷ rest)) k n (token_is (b ∷ rest)) h) e

-- the tokens of a text
pub tokens_are : {text : List ℕ} {at : ℕ} {tokens : List Token} → Lexes text at tokens → AreTokens (kinds tokens)
tokens_are (lexes_end e) = tt
tokens_are (lexes_blank e r) = tokens_are r
tokens_are {text} {at} (lexes_token {kind = k} {n = n} e r) = (front_token (drop at text) k n e, tokens_are r)
