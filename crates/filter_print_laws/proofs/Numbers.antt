-- Numbers and addresses, as they are printed, are spelled as themselves.
use Rattle.std.proofs.Common.{◌≡◌, ℕ, zero, suc, ◌<◌, true, false, not, List, [], ◌∷◌, ◌++◌, Some, None, Ok, length, refl, sym, ap, ◌∙◌, subst, arith, append_assoc, ◌==◌}
use Rattle.std.specs.Prelude.{◌^◌, codes}
use Rattle.std.specs.Char.{digit_value, is_ascii_digit}
use Rattle.std.specs.Fmt.{decimal}
use Rattle.std.specs.Int.{w32, from_be_bytes, byte_at}
use Rattle.std.specs.List.{list_all, list_any, slice_split}
use Rattle.std.specs.Str.Parse.{AllDigits}
use Rattle.std.proofs.lemmas.Nat.{from_be_bytes-to_be_bytes_4}
use Rattle.std.proofs.lemmas.List.{append-nil}
use Rattle.std.proofs.lemmas.List.Folds.{list_all-append}
use Rattle.filterlang.specs.declared.token.Kind.{Kind}
use Rattle.filterlang.specs.declared.token.Kind.TheVariants as kind
use Rattle.filterlang.specs.declared.token.Parts.TheVariants.{Four}
use Rattle.filterlang.specs.Tokens.{is_blank, token_at, front, front_of}
use Rattle.filterlang.specs.Numbers.{is_in_run, run_at, dotted_of, number_of, number_or_dotted_at, ethernet_at}
use Rattle.filter_print.specs.Primitives.{address_text}
use Rattle.filter_print_laws.proofs.Digits.{of_digit, of_digits, run_ends, decimal_digits, decimal_some, number_of-decimal, octet-decimal}
use Rattle.filter_print_laws.proofs.Runs.{Follows, follows_run, not_true, count_behind, no_ethernet, digits_no_ethernet, one_part, first_part, any_behind, none_any}
use Rattle.filter_print_laws.proofs.Spelled.{Spelled, spelled_first}

-- what begins with a digit is the number or the dotted address that stands there
digit_front : (b : ℕ) (bs : List ℕ) (k : Kind) (n : ℕ) → digit_value b < 10 → ethernet_at (b ∷ bs) ≡ None → number_or_dotted_at (b ∷ bs) ≡ Some (k, n) → front (b ∷ bs) ≡ front_of (Ok (k, n))
unfolding front token_at
digit_front b bs k n is none found =
    let blank : is_blank b ≡ false = not_true (is_blank b) (of_digit (λ c. not (is_blank c)) refl b is) in
    let digit : is_ascii_digit b ≡ true = of_digit is_ascii_digit refl b is in
    rw (blank, none, digit, found) refl

-- the same of digits and what follows them
digits_front : (ds rest : List ℕ) (k : Kind) (n : ℕ) → 0 < length ds → AllDigits 10 ds → ethernet_at (ds ++ rest) ≡ None → number_or_dotted_at (ds ++ rest) ≡ Some (k, n) → front (ds ++ rest) ≡ front_of (Ok (k, n))
digits_front [] rest k n some all none found = absurd (omega arith)
digits_front (b ∷ bs) rest k n some all none found = digit_front b (bs ++ rest) k n all.0 none found

-- a run without a dot is a number
number_found : (ds rest : List ℕ) (n : ℕ) → AllDigits 10 ds → Follows rest → number_of ds ≡ Some n → number_or_dotted_at (ds ++ rest) ≡ Some (kind.Number n, length ds)
unfolding number_or_dotted_at
number_found ds rest n all f is =
    let run : run_at 46 (ds ++ rest) ≡ ds = run_ends (is_in_run 46) ds rest (of_digits (is_in_run 46) refl ds all) (follows_run rest f) in
    rw (run, none_any (λ b. b == 46) ds (of_digits (λ b. not (b == 46)) refl ds all), is) refl

-- a number
pub number_spelled : (n : ℕ) → n < 2 ^ 32 → (rest : List ℕ) (ks : List Kind) → Follows rest → Spelled rest ks → Spelled (decimal n ++ rest) (kind.Number n ∷ ks)
number_spelled n small rest ks f s =
    spelled_first (decimal n) rest
    (digits_front (decimal n) rest (kind.Number n) (length (decimal n)) (decimal_some n small) (decimal_digits n small)
    (digits_no_ethernet (decimal n) rest (decimal_digits n small) f)
    (number_found (decimal n) rest n (decimal_digits n small) f (number_of-decimal n small)))
    s

-- four octets with dots between them
dots : ℕ → ℕ → ℕ → ℕ → List ℕ
dots a b c d = decimal a ++ (46 ∷ (decimal b ++ (46 ∷ (decimal c ++ (46 ∷ decimal d)))))

module _ (a b c d : ℕ) (la : a < 256) (lb : b < 256) (lc : c < 256) (ld : d < 256) where
  -- an octet's digits are no marks
  bare : (n : ℕ) → n < 256 → list_all (λ x. not (x == 46)) (decimal n) ≡ true
  bare n small = of_digits (λ x. not (x == 46)) refl (decimal n) (decimal_digits n (omega arith))

  in_run : (n : ℕ) → n < 256 → list_all (is_in_run 46) (decimal n) ≡ true
  in_run n small = of_digits (is_in_run 46) refl (decimal n) (decimal_digits n (omega arith))

  all_run : list_all (is_in_run 46) (dots a b c d) ≡ true
  unfolding dots
  all_run =
      list_all-append (is_in_run 46) (decimal a) (46 ∷ (decimal b ++ (46 ∷ (decimal c ++ (46 ∷ decimal d))))) ∙ rw (in_run a la)
      (list_all-append (is_in_run 46) (decimal b) (46 ∷ (decimal c ++ (46 ∷ decimal d))) ∙ rw (in_run b lb)
      (list_all-append (is_in_run 46) (decimal c) (46 ∷ decimal d) ∙ rw (in_run c lc, in_run d ld) refl))

  parts : slice_split (λ x. x == 46) (dots a b c d) ≡ decimal a ∷ decimal b ∷ decimal c ∷ decimal d ∷ []
  unfolding dots
  parts =
      first_part (λ x. x == 46) (decimal a) 46 (decimal b ++ (46 ∷ (decimal c ++ (46 ∷ decimal d)))) (bare a la) refl
      ∙ ap (λ x. decimal a ∷ x) (first_part (λ x. x == 46) (decimal b) 46 (decimal c ++ (46 ∷ decimal d)) (bare b lb) refl
      ∙ ap (λ x. decimal b ∷ x) (first_part (λ x. x == 46) (decimal c) 46 (decimal d) (bare c lc) refl
      ∙ ap (λ x. decimal c ∷ x) (one_part (λ x. x == 46) (decimal d) (bare d ld))))

  dotted_is : dotted_of (dots a b c d) ≡ Some (kind.Dotted (from_be_bytes w32 (a ∷ b ∷ c ∷ d ∷ [])) Four)
  dotted_is = rw (parts, octet-decimal a la, octet-decimal b lb, octet-decimal c lc, octet-decimal d ld) refl

  any_dot : list_any (λ x. x == 46) (dots a b c d) ≡ true
  unfolding dots
  any_dot = any_behind (λ x. x == 46) (decimal a) 46 (decimal b ++ (46 ∷ (decimal c ++ (46 ∷ decimal d)))) refl

  dots_found : (rest : List ℕ) → Follows rest → number_or_dotted_at (dots a b c d ++ rest) ≡ Some (kind.Dotted (from_be_bytes w32 (a ∷ b ∷ c ∷ d ∷ [])) Four, length (dots a b c d))
  unfolding number_or_dotted_at
  dots_found rest f =
      let run : run_at 46 (dots a b c d ++ rest) ≡ dots a b c d = run_ends (is_in_run 46) (dots a b c d) rest all_run (follows_run rest f) in
      rw (run, any_dot, dotted_is) refl

  -- the text begins with its first octet
  split_first : (rest : List ℕ) → dots a b c d ++ rest ≡ decimal a ++ 46 ∷ ((decimal b ++ (46 ∷ (decimal c ++ (46 ∷ decimal d)))) ++ rest)
  unfolding dots
  split_first rest = append_assoc (decimal a) (46 ∷ (decimal b ++ (46 ∷ (decimal c ++ (46 ∷ decimal d))))) rest

  dots_front : (rest : List ℕ) → Follows rest → front (dots a b c d ++ rest) ≡ front_of (Ok (kind.Dotted (from_be_bytes w32 (a ∷ b ∷ c ∷ d ∷ [])) Four, length (dots a b c d)))
  dots_front rest f =
      let more : List ℕ = (decimal b ++ (46 ∷ (decimal c ++ (46 ∷ decimal d)))) ++ rest in
      let digits_a = decimal_digits a (omega arith) in
      let none : ethernet_at (decimal a ++ 46 ∷ more) ≡ None =
      no_ethernet (decimal a ++ 46 ∷ more) (decimal a ++ [])
      (run_ends (is_in_run 58) (decimal a) (46 ∷ more) (of_digits (is_in_run 58) refl (decimal a) digits_a) refl ∙ sym (append-nil (decimal a)))
      (omega (arith, count_behind (λ x. x == 58) (decimal a) [] (of_digits (λ x. not (x == 58)) refl (decimal a) digits_a))) in
      ap front (split_first rest)
      ∙ digits_front (decimal a) (46 ∷ more) (kind.Dotted (from_be_bytes w32 (a ∷ b ∷ c ∷ d ∷ [])) Four) (length (dots a b c d)) (decimal_some a (omega arith)) digits_a none
      (ap number_or_dotted_at (sym (split_first rest)) ∙ dots_found rest f)

-- the text of four octets, from the left
text_is : (A B C D : List ℕ) → A ++ codes "." ++ B ++ codes "." ++ C ++ codes "." ++ D ≡ A ++ (46 ∷ (B ++ (46 ∷ (C ++ (46 ∷ D)))))
text_is A B C D =
    let p : List ℕ = codes "." in
    append_assoc (A ++ p ++ B ++ p ++ C) p D
    ∙ append_assoc (A ++ p ++ B ++ p) C (p ++ D)
    ∙ append_assoc (A ++ p ++ B) p (C ++ (p ++ D))
    ∙ append_assoc (A ++ p) B (p ++ (C ++ (p ++ D)))
    ∙ append_assoc A p (B ++ (p ++ (C ++ (p ++ D))))

-- a byte of a number is an octet
octet_small : (i n : ℕ) → byte_at i n < 256
octet_small zero n = omega arith
octet_small (suc i) n = omega arith

-- an IPv4 address
pub address_spelled : (address : ℕ) → address < 2 ^ 32 → (rest : List ℕ) (ks : List Kind) → Follows rest → Spelled rest ks → Spelled (address_text address ++ rest) (kind.Dotted address Four ∷ ks)
unfolding address_text dots
address_spelled address small rest ks f s =
    let a = byte_at 3 address in
    let b = byte_at 2 address in
    let c = byte_at 1 address in
    let d = byte_at 0 address in
    let text : address_text address ≡ dots a b c d = text_is (decimal a) (decimal b) (decimal c) (decimal d) in
    let whole : Spelled (dots a b c d ++ rest) (kind.Dotted (from_be_bytes w32 (a ∷ b ∷ c ∷ d ∷ [])) Four ∷ ks) =
    spelled_first (dots a b c d) rest (dots_front a b c d (octet_small 3 address) (octet_small 2 address) (octet_small 1 address) (octet_small 0 address) rest f) s in
    subst (λ x. Spelled (x ++ rest) (kind.Dotted address Four ∷ ks)) (sym text)
    (subst (λ x. Spelled (dots a b c d ++ rest) (kind.Dotted x Four ∷ ks)) (from_be_bytes-to_be_bytes_4 address small) whole)
