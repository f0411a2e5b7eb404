-- A run of bytes, as far as it matters to an Ethernet address.
use Rattle.std.proofs.Common.{◌≡◌, ℕ, zero, suc, ◌+◌, ◌*◌, ◌<◌, ◌≤◌, Bool, true, false, cond, List, [], ◌∷◌, Option, Some, None, length, take, refl, sym, ap, ◌∙◌, arith, min, nat_le, leb-true, ◌==◌}
use Rattle.std.specs.Prelude.{option_map, option_and_then}
use Rattle.std.specs.List.{prefix_len, slice_split, onto_first}
use Rattle.std.proofs.lemmas.List.Folds.{length-prefix_len}
use Rattle.std.proofs.lemmas.List.Sums.{prefix_len-le-length}
use Rattle.filterlang.specs.Numbers.{octet, octets, numeral, at_most, is_in_run, run_at, ethernet, ethernet_of, ethernet_at}
use Rattle.filterlang.proofs.Octets.{length-octets, ethernet-long}

-- a front of a list has the front of its run
pub prefix_len-take : {X : Type 0} (p : X → Bool) (n : ℕ) (xs : List X) → prefix_len p (take n xs) ≡ min n (prefix_len p xs)
prefix_len-take p zero xs = omega arith
prefix_len-take p (suc n) [] = omega arith
prefix_len-take p (suc n) (x ∷ xs) = at_test (p x) (prefix_len-take p n xs)
  where
    at_test : (b : Bool) → prefix_len p (take n xs) ≡ min n (prefix_len p xs) → cond b (1 + prefix_len p (take n xs)) 0 ≡ min (suc n) (cond b (1 + prefix_len p xs) 0)
    at_test true e = omega arith
    at_test false e = omega arith

-- the bytes of parts, and one for each part
abbrev with_marks : List (List ℕ) → ℕ
with_marks [] = 0
with_marks (part ∷ parts) = (length part + 1) + with_marks parts

-- one byte more in the first part
with_marks-onto : (x : ℕ) (parts : List (List ℕ)) → 0 < with_marks parts → with_marks (onto_first x parts) ≡ with_marks parts + 1
with_marks-onto x [] some = absurd (omega arith)
with_marks-onto x (part ∷ parts) some = omega arith

-- the parts of a run have its bytes, and each but the last a mark after it
with_marks-split : (p : ℕ → Bool) (run : List ℕ) → with_marks (slice_split p run) ≡ length run + 1
with_marks-split p [] = refl
with_marks-split p (b ∷ run) = at_test (p b) (with_marks-split p run)
  where
    at_test : (is : Bool) → with_marks (slice_split p run) ≡ length run + 1 → with_marks (cond is ([] ∷ slice_split p run) (onto_first b (slice_split p run))) ≡ length (b ∷ run) + 1
    at_test true e = omega arith
    at_test false e = let first = with_marks-onto b (slice_split p run) (omega arith) in omega arith

-- an octet has no more digits than it may
octet-short : (base most : ℕ) (part : List ℕ) (n : ℕ) → octet base most part ≡ Some n → length part ≤ most
octet-short base most part n e = at_test (nat_le (length part) most) refl e
  where
    at_test : (b : Bool) → nat_le (length part) most ≡ b → cond b (at_most 255 (numeral base part)) None ≡ Some n → length part ≤ most
    at_test true fits e = leb-true (length part) most fits
    at_test false fits e = absurd cc

-- groups of two digits at most, with a mark for each
with_marks-octets : (parts : List (List ℕ)) (ns : List ℕ) → octets 16 2 parts ≡ Some ns → with_marks parts ≤ 3 * length parts
with_marks-octets [] ns e = omega arith
with_marks-octets (part ∷ parts) ns e = at_octet (octet 16 2 part) refl (octets 16 2 parts) refl (with_marks-octets parts) e
  where
    at_octet : (o : Option ℕ) → octet 16 2 part ≡ o → (os : Option (List ℕ)) → octets 16 2 parts ≡ os → ((ms : List ℕ) → octets 16 2 parts ≡ Some ms → with_marks parts ≤ 3 * length parts) → option_and_then (λ n. option_map (λ ms. n ∷ ms) os) o ≡ Some ns → with_marks (part ∷ parts) ≤ 3 * length (part ∷ parts)
    at_octet None first os rest shorter e = absurd cc
    at_octet (Some n) first None rest shorter e = absurd cc
    at_octet (Some n) first (Some ms) rest shorter e = omega (arith, octet-short 16 2 part n first, shorter ms rest)

-- an Ethernet address has 17 bytes at most
pub ethernet_of-long : (run : List ℕ) → 17 < length run → ethernet_of run ≡ None
ethernet_of-long run long = at_octets (octets 16 2 (slice_split (λ b. b == 58) run)) refl
  where
    at_octets : (o : Option (List ℕ)) → octets 16 2 (slice_split (λ b. b == 58) run) ≡ o → option_and_then ethernet o ≡ None
    at_octets None e = refl
    at_octets (Some ns) e =
        let parts = length-octets 16 2 (slice_split (λ b. b == 58) run) ns e in
        let marks = with_marks-octets (slice_split (λ b. b == 58) run) ns e in
        ethernet-long ns (omega (arith, parts, marks, with_marks-split (λ b. b == 58) run))

-- the run of a front of 18 bytes
run_in_front : (text : List ℕ) (m n : ℕ) → m ≡ min (length text) 18 → n ≡ prefix_len (is_in_run 58) (take m text) → n ≡ min 18 (prefix_len (is_in_run 58) text)
run_in_front text m n front is = omega (arith, prefix_len-take (is_in_run 58) m text, prefix_len-le-length (is_in_run 58) text)

-- a run of more than 17 bytes is no Ethernet address
pub ethernet_at-long : (text : List ℕ) (m n : ℕ) → m ≡ min (length text) 18 → n ≡ prefix_len (is_in_run 58) (take m text) → 17 < n → None ≡ ethernet_at text
unfolding ethernet_at
ethernet_at-long text m n front is long =
    let counted = run_in_front text m n front is in
    sym (ap (option_map (λ kind. (kind, length (run_at 58 text)))) (ethernet_of-long (run_at 58 text) (omega (arith, length-prefix_len (is_in_run 58) text))))

-- a shorter one is read whole from the front of 18 bytes
pub ethernet_at-short : (text : List ℕ) (m n : ℕ) → m ≡ min (length text) 18 → n ≡ prefix_len (is_in_run 58) (take m text) → n ≤ 17 → option_map (λ kind. (kind, n)) (ethernet_of (take n text)) ≡ ethernet_at text
unfolding ethernet_at
ethernet_at-short text m n front is short =
    let counted = run_in_front text m n front is in
    let whole : n ≡ prefix_len (is_in_run 58) text = omega arith in
    let len : n ≡ length (run_at 58 text) = whole ∙ sym (length-prefix_len (is_in_run 58) text) in
    ap (λ i. option_map (λ kind. (kind, n)) (ethernet_of (take i text))) whole ∙ ap (λ i. option_map (λ kind. (kind, i)) (ethernet_of (run_at 58 text))) len
