-- An Ethernet address, as it is printed, is spelled as itself.
use Rattle.std.proofs.Common.{◌≡◌, ℕ, ◌+◌, ◌*◌, ◌<◌, ◌≤◌, Bool, true, false, not, List, [], ◌∷◌, ◌++◌, Some, Ok, length, get_or, refl, sym, ap, ◌∙◌, subst, arith, ◌==◌, ◌/◌, ◌%◌, le-leb}
use Rattle.std.specs.Prelude.{codes, slice_index}
use Rattle.std.specs.Char.{is_digit, digit_value}
use Rattle.std.specs.Fmt.{digit_glyph}
use Rattle.std.specs.List.{list_all, slice_split}
use Rattle.std.proofs.lemmas.Bool.{eqb-true}
use Rattle.std.proofs.lemmas.Fmt.{hex_one_digit}
use Rattle.std.proofs.lemmas.List.Folds.{list_all-append}
use Rattle.filterlang.specs.declared.token.Kind.{Kind}
use Rattle.filterlang.specs.declared.token.Kind.TheVariants as kind
use Rattle.filter_tree.specs.declared.tree.EthernetAddress.{EthernetAddress}
use Rattle.filterlang.specs.Words.{begins}
use Rattle.filterlang.specs.Tokens.{is_blank, token_at, front, front_of}
use Rattle.filterlang.specs.Numbers.{is_in_run, run_at, octet, ethernet_of, ethernet_at, at_most}
use Rattle.filter_print.specs.Primitives.{octet_text, octets_text, ethernet_text}
use Rattle.filter_print_laws.proofs.Digits.{below, below_all, run_ends}
use Rattle.filter_print_laws.proofs.Runs.{not_true, one_part, first_part}
use Rattle.filter_print_laws.proofs.Spelled.{Spelled, spelled_first}
use Rattle.filter_print_laws.proofs.Endings.{Ends, ends_end, ends_blank, ends_close, Spells}

-- the glyph of a hexadecimal digit
glyph : ℕ → ℕ
glyph d = digit_glyph false d

-- what holds of the sixteen glyphs
glyph_has : (p : ℕ → Bool) → below (λ d. p (glyph d)) 16 ≡ true → (d : ℕ) → d < 16 → p (glyph d) ≡ true
glyph_has p e d small = below_all (λ k. p (glyph k)) 16 e d small

-- two digits
pair : ℕ → List ℕ
pair o = glyph (o / 16) ∷ glyph (o % 16) ∷ []

-- as they are printed
pair_is : (o : ℕ) → o < 256 → octet_text o ≡ pair o
unfolding pair glyph
pair_is o small = rw (hex_one_digit false (o / 16) (omega arith), hex_one_digit false (o % 16) (omega arith)) refl

-- what holds of both digits
pair_all : (p : ℕ → Bool) → below (λ d. p (glyph d)) 16 ≡ true → (o : ℕ) → o < 256 → list_all p (pair o) ≡ true
unfolding pair
pair_all p e o small = rw (glyph_has p e (o / 16) (omega arith), glyph_has p e (o % 16) (omega arith)) refl

-- a glyph is a digit, and has its value
glyph_digit : (d : ℕ) → d < 16 → is_digit (glyph d) 16 ≡ true
unfolding glyph
glyph_digit d small = below_all (λ k. is_digit (glyph k) 16) 16 refl d small

-- the value of one
glyph_value : (d : ℕ) → d < 16 → digit_value (glyph d) ≡ d
unfolding glyph
glyph_value d small = eqb-true (digit_value (glyph d)) d (below_all (λ k. digit_value (glyph k) == k) 16 refl d small)

-- it is the octet
two_digits : (a b : ℕ) → a < 16 → b < 16 → octet 16 2 (glyph a ∷ glyph b ∷ []) ≡ Some (a * 16 + b)
two_digits a b la lb =
    rw (glyph_digit a la, glyph_digit b lb, glyph_value a la, glyph_value b lb) (at_limit ((0 * 16 + a) * 16 + b) (omega arith) ∙ ap Some plain)
  where
    plain : (0 * 16 + a) * 16 + b ≡ a * 16 + b
    plain = omega arith

    at_limit : (n : ℕ) → n ≤ 255 → at_most 255 (Some n) ≡ Some n
    at_limit n le = rw (le-leb n 255 le) refl

-- so two of them are an octet
octet_is : (o : ℕ) → o < 256 → octet 16 2 (pair o) ≡ Some o
unfolding pair
octet_is o small = let whole : o / 16 * 16 + o % 16 ≡ o = omega arith in two_digits (o / 16) (o % 16) (omega arith) (omega arith) ∙ ap Some whole

-- none of what may follow goes on with a run of letters, digits and colons
ends_run : (rest : List ℕ) → Ends rest → begins (is_in_run 58) rest ≡ false
ends_run rest ends_end = refl
ends_run rest ends_blank = refl
ends_run rest ends_close = refl

-- an Ethernet address goes before all else
glyph_front : (d : ℕ) (bs : List ℕ) (k : Kind) (n : ℕ) → d < 16 → ethernet_at (glyph d ∷ bs) ≡ Some (k, n) → front (glyph d ∷ bs) ≡ front_of (Ok (k, n))
unfolding front token_at glyph
glyph_front d bs k n small found = rw (not_true (is_blank (glyph d)) (glyph_has (λ c. not (is_blank c)) refl d small), found) refl

-- six pairs with colons between them
pairs : ℕ → ℕ → ℕ → ℕ → ℕ → ℕ → List ℕ
pairs a b c d e f = pair a ++ (58 ∷ (pair b ++ (58 ∷ (pair c ++ (58 ∷ (pair d ++ (58 ∷ (pair e ++ (58 ∷ pair f)))))))))

module _ (a b c d e f : ℕ) (la : a < 256) (lb : b < 256) (lc : c < 256) (ld : d < 256) (le : e < 256) (lf : f < 256) where
  in_run : (o : ℕ) → o < 256 → list_all (is_in_run 58) (pair o) ≡ true
  unfolding glyph
  in_run o small = pair_all (is_in_run 58) refl o small

  bare : (o : ℕ) → o < 256 → list_all (λ x. not (x == 58)) (pair o) ≡ true
  unfolding glyph
  bare o small = pair_all (λ x. not (x == 58)) refl o small

  one_more : (o : ℕ) (more : List ℕ) → o < 256 → list_all (is_in_run 58) more ≡ true → list_all (is_in_run 58) (pair o ++ (58 ∷ more)) ≡ true
  one_more o more small all = list_all-append (is_in_run 58) (pair o) (58 ∷ more) ∙ rw (in_run o small, all) refl

  all_run : list_all (is_in_run 58) (pairs a b c d e f) ≡ true
  unfolding pairs
  all_run = one_more a _ la (one_more b _ lb (one_more c _ lc (one_more d _ ld (one_more e _ le (in_run f lf)))))

  parts : slice_split (λ x. x == 58) (pairs a b c d e f) ≡ pair a ∷ pair b ∷ pair c ∷ pair d ∷ pair e ∷ pair f ∷ []
  unfolding pairs
  parts =
      first_part (λ x. x == 58) (pair a) 58 _ (bare a la) refl
      ∙ ap (λ x. pair a ∷ x) (first_part (λ x. x == 58) (pair b) 58 _ (bare b lb) refl
      ∙ ap (λ x. pair b ∷ x) (first_part (λ x. x == 58) (pair c) 58 _ (bare c lc) refl
      ∙ ap (λ x. pair c ∷ x) (first_part (λ x. x == 58) (pair d) 58 _ (bare d ld) refl
      ∙ ap (λ x. pair d ∷ x) (first_part (λ x. x == 58) (pair e) 58 _ (bare e le) refl
      ∙ ap (λ x. pair e ∷ x) (one_part (λ x. x == 58) (pair f) (bare f lf))))))

  address_is : ethernet_of (pairs a b c d e f) ≡ Some (kind.Ethernet (record { octets = a ∷ b ∷ c ∷ d ∷ e ∷ f ∷ [] }))
  address_is = rw (parts, octet_is a la, octet_is b lb, octet_is c lc, octet_is d ld, octet_is e le, octet_is f lf) refl

  found : (rest : List ℕ) → Ends rest → ethernet_at (pairs a b c d e f ++ rest) ≡ Some (kind.Ethernet (record { octets = a ∷ b ∷ c ∷ d ∷ e ∷ f ∷ [] }), length (pairs a b c d e f))
  unfolding ethernet_at
  found rest behind =
      let run : run_at 58 (pairs a b c d e f ++ rest) ≡ pairs a b c d e f = run_ends (is_in_run 58) (pairs a b c d e f) rest all_run (ends_run rest behind) in
      rw (run, address_is) refl

  pairs_front : (rest : List ℕ) → Ends rest → front (pairs a b c d e f ++ rest) ≡ front_of (Ok (kind.Ethernet (record { octets = a ∷ b ∷ c ∷ d ∷ e ∷ f ∷ [] }), length (pairs a b c d e f)))
  unfolding pairs pair
  pairs_front rest behind = glyph_front (a / 16) _ _ _ (omega arith) (found rest behind)

-- the address in its text
six : (os : List ℕ) → length os ≡ 6 → os ≡ slice_index os 0 ∷ slice_index os 1 ∷ slice_index os 2 ∷ slice_index os 3 ∷ slice_index os 4 ∷ slice_index os 5 ∷ []
six [] e = absurd (omega arith)
six (a ∷ []) e = absurd (omega arith)
six (a ∷ b ∷ []) e = absurd (omega arith)
six (a ∷ b ∷ c ∷ []) e = absurd (omega arith)
six (a ∷ b ∷ c ∷ d ∷ []) e = absurd (omega arith)
six (a ∷ b ∷ c ∷ d ∷ f ∷ []) e = absurd (omega arith)
six (a ∷ b ∷ c ∷ d ∷ f ∷ g ∷ []) e = refl
six (a ∷ b ∷ c ∷ d ∷ f ∷ g ∷ h ∷ os) e = absurd (omega arith)

-- as they are printed, three
three_is : (a b c : ℕ) → a < 256 → b < 256 → c < 256 → octets_text a b c ≡ pair a ++ (58 ∷ (pair b ++ (58 ∷ pair c)))
unfolding octets_text pair
three_is a b c la lb lc = rw (pair_is a la, pair_is b lb, pair_is c lc) refl

-- and six
text_is : (a b c d e f : ℕ) → a < 256 → b < 256 → c < 256 → d < 256 → e < 256 → f < 256 → octets_text a b c ++ (codes ":" ++ octets_text d e f) ≡ pairs a b c d e f
unfolding pairs pair
text_is a b c d e f la lb lc ld le lf = rw (three_is a b c la lb lc, three_is d e f ld le lf) refl

-- an Ethernet address
pub ethernet_spelled : (address : EthernetAddress) → length address.octets ≡ 6 → ((i : ℕ) → get_or address.octets i 0 < 256) → Spells (ethernet_text address.octets) (λ ks. kind.Ethernet address ∷ ks) Ends
unfolding ethernet_text
ethernet_spelled address long small rest ks behind s =
    let os = address.octets in
    let text : ethernet_text os ≡ pairs (slice_index os 0) (slice_index os 1) (slice_index os 2) (slice_index os 3) (slice_index os 4) (slice_index os 5) = text_is _ _ _ _ _ _ (small 0) (small 1) (small 2) (small 3) (small 4) (small 5) in
    let same : record { octets = slice_index os 0 ∷ slice_index os 1 ∷ slice_index os 2 ∷ slice_index os 3 ∷ slice_index os 4 ∷ slice_index os 5 ∷ [] } ≡ address = ap (λ (x : List ℕ). record { octets = x }) (sym (six os long)) in
    subst (λ x. Spelled (x ++ rest) (kind.Ethernet address ∷ ks)) (sym text)
    (subst (λ x. Spelled (pairs (slice_index os 0) (slice_index os 1) (slice_index os 2) (slice_index os 3) (slice_index os 4) (slice_index os 5) ++ rest) (kind.Ethernet x ∷ ks)) same
    (spelled_first (pairs (slice_index os 0) (slice_index os 1) (slice_index os 2) (slice_index os 3) (slice_index os 4) (slice_index os 5)) rest
    (pairs_front _ _ _ _ _ _ (small 0) (small 1) (small 2) (small 3) (small 4) (small 5) rest behind) s))
