-- A token has at least one byte, and lies within its text.
use Rattle.std.proofs.Common.{◌≡◌, ℕ, ◌+◌, ◌≤◌, Bool, true, false, ◌&&◌, cond, List, [], ◌∷◌, Option, Some, None, Result, Ok, Err, length, drop, nat_lt, nat_eq, ◌==◌, if◌then◌else◌, ltb-true, refl, sym, ap, ◌∙◌, arith}
use Rattle.std.specs.Prelude.{IfSome, IfOk, option_map}
use Rattle.std.specs.Char.{is_ascii_digit, is_ascii_alphabetic}
use Rattle.std.specs.Option.{ok_or}
use Rattle.std.specs.List.{find, list_all, list_any, starts_with, prefix_len}
use Rattle.std.proofs.lemmas.List.{length-drop, nil_from_length}
use Rattle.std.proofs.lemmas.List.Folds.{length-prefix_len}
use Rattle.std.proofs.lemmas.List.Sums.{prefix_len-le-length}
use Rattle.filterlang.specs.declared.token.Kind.{Kind}
use Rattle.filterlang.specs.declared.token.Kind.TheVariants.{Number}
use Rattle.filterlang.specs.declared.lexer.Cause.{Cause}
use Rattle.filterlang.specs.declared.lexer.Cause.TheVariants.{BadByte, BadWord, BadNumber}
use Rattle.filterlang.specs.Words.{Entry, words, names, signs, begins, stands, stands_whole, token_of, whole_word, standing}
use Rattle.filterlang.specs.Numbers.{is_in_run, run_at, number_or_dotted_at, ethernet_at, number_of, dotted_of, ethernet_of}
use Rattle.filterlang.specs.Tokens.{is_blank, found_or, token_at, front, front_of}
use Rattle.filterlang.specs.Finding.{IsLengthWithin, IsWithin}
use Rattle.filterlang.specs.declared.lexer.Front.TheVariants.{Blank}

-- both parts of a test that holds
pub both_true : (a b : Bool) → (a && b) ≡ true → (a ≡ true) × (b ≡ true)
both_true true b e = (refl, e)
both_true false b e = absurd cc

-- a text has what it begins with
length-starts_with : (text word : List ℕ) → starts_with nat_eq text word ≡ true → length word ≤ length text
length-starts_with text [] e = omega arith
length-starts_with [] (w ∷ word) e = absurd cc
length-starts_with (b ∷ text) (w ∷ word) e = let rest = length-starts_with text word (both_true (nat_eq w b) (starts_with nat_eq text word) e).1 in omega arith

-- what is found passes the test, and has what each entry has
found_passes : (p q : Entry → Bool) (table : List Entry) (x : Entry) → list_all q table ≡ true → find p table ≡ Some x → (p x ≡ true) × (q x ≡ true)
found_passes p q [] x all e = absurd cc
found_passes p q (y ∷ table) x all e = at_test (p y) refl (both_true (q y) (list_all q table) all) e (found_passes p q table x (both_true (q y) (list_all q table) all).1)
  where
    at_test : (b : Bool) → p y ≡ b → (q y ≡ true) × (list_all q table ≡ true) → cond b (Some y) (find p table) ≡ Some x → (find p table ≡ Some x → (p x ≡ true) × (q x ≡ true)) → (p x ≡ true) × (q x ≡ true)
    at_test true passes each e later = let same : y ≡ x = cc in (ap p (sym same) ∙ passes, ap q (sym same) ∙ each.0)
    at_test false passes each e later = later e

-- an entry has a byte at least
abbrev spells_something : Entry → Bool
spells_something entry = nat_lt 0 (length entry.0)

-- so an entry that is found lies within the text
entry_within : (p : List ℕ → Bool) (table : List Entry) (text : List ℕ) → list_all spells_something table ≡ true → ((spelling : List ℕ) → p spelling ≡ true → stands text spelling ≡ true) → IfSome (option_map token_of (find (λ e. p e.0) table)) (λ t. IsLengthWithin t.1 (length text))
entry_within p table text all stands_there = at_found (find (λ e. p e.0) table) refl
  where
    at_found : (o : Option Entry) → find (λ e. p e.0) table ≡ o → IfSome (option_map token_of o) (λ t. IsLengthWithin t.1 (length text))
    at_found None e = tt
    at_found (Some x) e =
        let passes = found_passes (λ y. p y.0) spells_something table x all e in
        (ltb-true 0 (length x.0) passes.1, length-starts_with text x.0 (stands_there x.0 passes.0))

-- a word lies within the text
pub word_within : (text : List ℕ) → IfSome (whole_word words text) (λ t. IsLengthWithin t.1 (length text))
unfolding words
word_within text = entry_within (stands_whole text) words text refl (λ x h. (both_true (stands text x) _ h).0)

-- a name lies within it
pub name_within : (text : List ℕ) → IfSome (whole_word names text) (λ t. IsLengthWithin t.1 (length text))
unfolding names
name_within text = entry_within (stands_whole text) names text refl (λ x h. (both_true (stands text x) _ h).0)

-- a sign lies within it
pub sign_within : (text : List ℕ) → IfSome (standing signs text) (λ t. IsLengthWithin t.1 (length text))
unfolding signs
sign_within text = entry_within (stands text) signs text refl (λ x h. h)

-- what a run is, with its length
abbrev with_length : List ℕ → Kind → Kind × ℕ
with_length run kind = (kind, length run)

-- what is read from a run, which nothing is from an empty one
run_within : (mark : ℕ) (text : List ℕ) (kind_of : List ℕ → Option Kind) → kind_of [] ≡ None → IfSome (option_map (with_length (run_at mark text)) (kind_of (run_at mark text))) (λ t. IsLengthWithin t.1 (length text))
run_within mark text kind_of none = at_run (run_at mark text) (length-prefix_len (is_in_run mark) text) (kind_of (run_at mark text)) refl
  where
    at_run : (run : List ℕ) → length run ≡ prefix_len (is_in_run mark) text → (o : Option Kind) → kind_of run ≡ o → IfSome (option_map (with_length run) o) (λ t. IsLengthWithin t.1 (length text))
    at_run run len None e = tt
    at_run [] len (Some kind) e = absurd cc
    at_run (b ∷ run) len (Some kind) e = (omega arith, omega (arith, prefix_len-le-length (is_in_run mark) text))

-- an Ethernet address lies within the text
pub ethernet_within : (text : List ℕ) → IfSome (ethernet_at text) (λ t. IsLengthWithin t.1 (length text))
unfolding ethernet_at
ethernet_within text = run_within 58 text ethernet_of refl

-- a number or dotted address lies within it
pub number_within : (text : List ℕ) → IfSome (number_or_dotted_at text) (λ t. IsLengthWithin t.1 (length text))
unfolding number_or_dotted_at
number_within text = run_within 46 text (λ run. if list_any (λ b. b == 46) run then dotted_of run else option_map Number (number_of run)) refl

-- each way to a token keeps within the text
abbrev IsTokenOf : List ℕ → Kind × ℕ → Type 0
IsTokenOf text token = IsLengthWithin token.1 (length text)

-- the first way, or else the second
or_else_within : (text : List ℕ) (o : Option (Kind × ℕ)) (r : Result (Kind × ℕ) Cause) → IfSome o (IsTokenOf text) → IfOk r (IsTokenOf text) → IfOk (found_or o r) (IsTokenOf text)
or_else_within text None r first second = second
or_else_within text (Some x) r first second = first

-- a way that has a cause where it fails
ok_or_within : (text : List ℕ) (o : Option (Kind × ℕ)) (cause : Cause) → IfSome o (IsTokenOf text) → IfOk (ok_or o cause) (IsTokenOf text)
ok_or_within text None cause first = tt
ok_or_within text (Some x) cause first = first

-- one way or the other, by a test
if_within : (text : List ℕ) (b : Bool) (r s : Result (Kind × ℕ) Cause) → IfOk r (IsTokenOf text) → IfOk s (IsTokenOf text) → IfOk (if b then r else s) (IsTokenOf text)
if_within text true r s first second = first
if_within text false r s first second = second

-- a name after its backslash
backslash_within : (text : List ℕ) (o : Option (Kind × ℕ)) → IfSome o (IsTokenOf (drop 1 text)) → IfSome (option_map (λ name. (name.0, name.1 + 1)) o) (IsTokenOf text)
backslash_within text None first = tt
backslash_within text (Some x) first = (omega arith, omega (arith, length-drop 1 text))

-- a token lies within the text
pub token_within : (text : List ℕ) → IfOk (token_at text) (IsTokenOf text)
unfolding token_at
token_within text =
    or_else_within text (ethernet_at text) _ (ethernet_within text)
    (if_within text (begins is_ascii_digit text) _ _ (ok_or_within text (number_or_dotted_at text) BadNumber (number_within text))
    (if_within text (begins is_ascii_alphabetic text) _ _ (ok_or_within text (whole_word words text) BadWord (word_within text))
    (if_within text (begins (λ b. b == 92) text) _ _ (ok_or_within text _ BadWord (backslash_within text (whole_word names (drop 1 text)) (name_within (drop 1 text))))
    (ok_or_within text (standing signs text) BadByte (sign_within text)))))

-- the empty list has none
token_at_nil : token_at [] ≡ Err BadByte
unfolding token_at ethernet_at signs
token_at_nil = refl

-- nothing is no token
pub token_at-nil : (text : List ℕ) → length text ≡ 0 → token_at text ≡ Err BadByte
token_at-nil text empty = ap token_at (nil_from_length text empty) ∙ token_at_nil

-- what stands at the front keeps within where its token does
front_of_within : (r : Result (Kind × ℕ) Cause) (b : ℕ) (text : List ℕ) → IfOk r (IsTokenOf (b ∷ text)) → IsWithin (front_of r) (length (b ∷ text))
front_of_within (Ok token) b text within = within
front_of_within (Err cause) b text within = omega arith

-- what stands at the front lies within the text
pub front_within : (text : List ℕ) → IsWithin (front text) (length text)
unfolding front
front_within [] = refl
front_within (b ∷ text) = at_test (is_blank b) (front_of_within (token_at (b ∷ text)) b text (token_within (b ∷ text)))
  where
    at_test : (blank : Bool) → IsWithin (front_of (token_at (b ∷ text))) (length (b ∷ text)) → IsWithin (if blank then Blank else front_of (token_at (b ∷ text))) (length (b ∷ text))
    at_test true within = omega arith
    at_test false within = within
