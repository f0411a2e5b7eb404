-- Six bytes as two and four, asked for once for all members of a list.
use Rattle.std.proofs.Common.{◌≡◌, ◌≢◌, ℕ, ◌+◌, ◌-◌, ◌*◌, ◌/◌, ◌%◌, ◌^◌, ◌<◌, ◌≤◌, ◌==◌, ◌&&◌, Bool, true, false, List, [], ◌∷◌, ◌++◌, length, take, drop, Some, refl, sym, ap, ◌∙◌, arith, ◌⊎◌, inl, inr, if◌then◌else◌}
use Rattle.std.proofs.lemmas.Bool.{cases_lt, cases_eq}
use Rattle.std.proofs.lemmas.Bool.Decides.{nat_tests}
use Rattle.std.proofs.lemmas.List.{length-drop}
use Rattle.std.proofs.Math.Seq.{take-add, drop-drop}
use Rattle.bpfvm.specs.Machine.{big_endian}
use Rattle.filter_meaning.proofs.Numbers.{number-some, number-none}
use Rattle.filter_meaning.specs.declared.verdict.Verdict.TheVariants.{Yes, No, Abort}
use Rattle.filter_meaning.specs.Meaning.{Packet, HasBytes, and_then, or_else, or_test, check, decided, half, word, six, within}
use Rattle.filtergen_facts.specs.declared.lists.ValueRange.{ValueRange}
use Rattle.filtergen_facts.specs.Lists.{any_of, has_tail}
use Rattle.filtergen_code.specs.ValueLists.{in_ranges}
use Rattle.filtergen_facts.proofs.Joining.{any-same, any-abort, any-no}
use Rattle.filtergen_code.proofs.ValueLists.{among-decided, decided-either}
use Rattle.filtergen_code.proofs.Six.{fold-joined, all-dropped, four_below}

-- whether a number of two bytes and one of four are of a member
abbrev pub is_tail : ℕ → ℕ → ValueRange → Bool
is_tail head n x = (n / 2 ^ 32 == head) && within x.low x.high (n % 2 ^ 32)

-- the last four of more bytes
last_four : (xs ys : List ℕ) → 4 ≤ length ys → big_endian (xs ++ take 4 ys) ≡ big_endian xs * 2 ^ 32 + big_endian (take 4 ys)
last_four xs [] four = absurd (omega arith)
last_four xs (c ∷ []) four = absurd (omega arith)
last_four xs (c ∷ d ∷ []) four = absurd (omega arith)
last_four xs (c ∷ d ∷ e ∷ []) four = absurd (omega arith)
last_four xs (c ∷ d ∷ e ∷ f ∷ ys) four =
    fold-joined xs (c ∷ d ∷ e ∷ f ∷ []) 0
    ∙ (let h : 256 * (256 * (256 * (256 * big_endian xs + c) + d) + e) + f ≡ big_endian xs * 2 ^ 32 + (256 * (256 * (256 * (256 * 0 + c) + d) + e) + f) = omega arith in h)

-- six bytes that are there
pub six-there : (o : ℕ) (p : Packet) → HasBytes p → o + 6 ≤ length p.captured
    → (m n : ℕ) × (six o p ≡ Some (m * 2 ^ 32 + n)) × (half o p ≡ Some m) × (word (o + 2) p ≡ Some n) × (n < 2 ^ 32)
six-there o p bytes inside =
    let b = p.captured in
    let front = drop o b in
    let back = drop (o + 2) b in
    let l : length back ≡ length b - (o + 2) = length-drop (o + 2) b in
    let joined : take 6 front ≡ take 2 front ++ take 4 back = take-add 2 4 front ∙ ap (λ x. take 2 front ++ take 4 x) (drop-drop 2 o b) in (
      big_endian (take 2 front),
      big_endian (take 4 back),
      number-some b o 6 inside ∙ ap Some (ap big_endian joined ∙ last_four (take 2 front) back (omega (arith, l))),
      number-some b o 2 (omega arith),
      number-some b (o + 2) 4 (omega arith),
      four_below back (all-dropped (o + 2) b bytes),
    )

equal : (m n : ℕ) → m ≡ n → (m == n) ≡ true
equal m n is = grind (arith, nat_tests)

different : (m n : ℕ) → m ≢ n → (m == n) ≡ false
different m n is = grind (arith, nat_tests)

parted : (a b c d : ℕ) → b < 2 ^ 32 → d < 2 ^ 32 → and_then (decided (b == d)) (decided (a == c)) ≡ decided (a * 2 ^ 32 + b == c * 2 ^ 32 + d)
parted a b c d first second = by_cases (cases_eq b d) (cases_eq a c)
  where
    by_cases : (b ≡ d) ⊎ (b ≢ d) → (a ≡ c) ⊎ (a ≢ c) → and_then (decided (b == d)) (decided (a == c)) ≡ decided (a * 2 ^ 32 + b == c * 2 ^ 32 + d)
    by_cases (inl same) (inl same') =
        ap (λ x. and_then (decided x) (decided (a == c))) (equal b d same) ∙ ap decided (equal a c same') ∙ sym (ap decided (equal (a * 2 ^ 32 + b) (c * 2 ^ 32 + d) (omega arith)))
    by_cases (inl same) (inr other) =
        ap (λ x. and_then (decided x) (decided (a == c))) (equal b d same) ∙ ap decided (different a c other) ∙ sym (ap decided (different (a * 2 ^ 32 + b) (c * 2 ^ 32 + d) (λ is. other (omega arith))))
    by_cases (inr other) either' =
        ap (λ x. and_then (decided x) (decided (a == c))) (different b d other) ∙ sym (ap decided (different (a * 2 ^ 32 + b) (c * 2 ^ 32 + d) (λ is. other (omega arith))))

-- two tests are the one of six bytes
pub six-parted : (o high low number : ℕ) (p : Packet) → HasBytes p → low < 2 ^ 32 → number ≡ high * 2 ^ 32 + low
    → and_then (check (λ n. n == low) (word (o + 2) p)) (check (λ n. n == high) (half o p)) ≡ check (λ n. n == number) (six o p)
six-parted o high low number p bytes below is = by_length (cases_lt (length p.captured) (o + 6))
  where
    by_length : (length p.captured < o + 6) ⊎ (o + 6 ≤ length p.captured)
        → and_then (check (λ n. n == low) (word (o + 2) p)) (check (λ n. n == high) (half o p)) ≡ check (λ n. n == number) (six o p)
    by_length (inl past) =
        ap (λ v. and_then (check (λ n. n == low) v) (check (λ n. n == high) (half o p))) (number-none p.captured (o + 2) 4 (omega arith))
        ∙ sym (ap (check (λ n. n == number)) (number-none p.captured o 6 past))
    by_length (inr inside) =
        let there = six-there o p bytes inside in
        ap (λ v. and_then (check (λ k. k == low) v) (check (λ k. k == high) (half o p))) there.4
        ∙ ap (λ v. and_then (decided (there.1 == low)) (check (λ k. k == high) v)) there.3
        ∙ parted there.0 there.1 high low there.5 below
        ∙ ap (λ k. decided (there.0 * 2 ^ 32 + there.1 == k)) (sym is)
        ∙ sym (ap (check (λ k. k == number)) there.2)

-- the first two of all members are one number
any-headed : (b : Bool) (xs : List ValueRange) (n : ℕ) (p : Packet) → any_of (λ (x : ValueRange) q. decided (b && within x.low x.high n)) xs p ≡ and_then (decided (in_ranges xs n)) (decided b)
any-headed true xs n p = among-decided xs p n ∙ by_test (in_ranges xs n)
  where
    by_test : (c : Bool) → decided c ≡ and_then (decided c) Yes
    by_test true = refl
    by_test false = refl
any-headed false xs n p = any-no xs p ∙ by_test (in_ranges xs n)
  where
    by_test : (c : Bool) → No ≡ and_then (decided c) No
    by_test true = refl
    by_test false = refl

tails-missing : (head o : ℕ) (xs : List ValueRange) (p : Packet) → length p.captured < o + 6 → 0 < length xs → any_of (λ x. has_tail head x o) xs p ≡ Abort
tails-missing head o xs p past some =
    any-same (λ x. has_tail head x o) (λ (x : ValueRange) q. Abort) p (λ x. ap (check (λ n. is_tail head n x)) (number-none p.captured o 6 past)) xs ∙ any-abort xs p some

-- one test of the last four bytes, and one of the first two
pub tails-shared : (head o : ℕ) (xs : List ValueRange) (p : Packet) → HasBytes p → 0 < length xs
    → and_then (check (in_ranges xs) (word (o + 2) p)) (check (λ n. n == head) (half o p)) ≡ any_of (λ x. has_tail head x o) xs p
tails-shared head o xs p bytes some = by_length (cases_lt (length p.captured) (o + 6))
  where
    by_length : (length p.captured < o + 6) ⊎ (o + 6 ≤ length p.captured)
        → and_then (check (in_ranges xs) (word (o + 2) p)) (check (λ n. n == head) (half o p)) ≡ any_of (λ x. has_tail head x o) xs p
    by_length (inl past) =
        ap (λ v. and_then (check (in_ranges xs) v) (check (λ n. n == head) (half o p))) (number-none p.captured (o + 2) 4 (omega arith))
        ∙ sym (tails-missing head o xs p past some)
    by_length (inr inside) =
        let there = six-there o p bytes inside in
        let m = there.0 in
        let n = there.1 in
        let number = m * 2 ^ 32 + n in
        let below = there.5 in
        let first : number / 2 ^ 32 ≡ m = omega (arith, below) in
        let last : number % 2 ^ 32 ≡ n = omega (arith, below) in
        ap (λ v. and_then (check (in_ranges xs) v) (check (λ k. k == head) (half o p))) there.4
        ∙ ap (λ v. and_then (decided (in_ranges xs n)) (check (λ k. k == head) v)) there.3
        ∙ sym (any-headed (m == head) xs n p)
        ∙ any-same (λ (x : ValueRange) q. decided ((m == head) && within x.low x.high n)) (λ x. has_tail head x o) p
        (λ x.
        ap (λ k. decided ((k == head) && within x.low x.high n)) (sym first)
        ∙ ap (λ k. decided ((number / 2 ^ 32 == head) && within x.low x.high k)) (sym last)
        ∙ sym (ap (check (λ k. is_tail head k x)) there.2)) xs

-- whether one of them has it
abbrev some_of : (ValueRange → Bool) → List ValueRange → Bool
some_of f [] = false
some_of f (x ∷ xs) = if f x then true else some_of f xs

any-decided : (f : ValueRange → Bool) (xs : List ValueRange) (p : Packet) → any_of (λ x q. decided (f x)) xs p ≡ decided (some_of f xs)
any-decided f [] p = refl
any-decided f (x ∷ xs) p = ap (λ v. or_else v (decided (f x))) (any-decided f xs p) ∙ decided-either (some_of f xs) (f x)

either-decided : (f g : ValueRange → Bool) (xs : List ValueRange) (p : Packet) → any_of (λ x q. or_else (decided (f x)) (decided (g x))) xs p ≡ or_else (decided (some_of f xs)) (decided (some_of g xs))
either-decided f g [] p = refl
either-decided f g (x ∷ xs) p =
    ap (λ v. or_else v (or_else (decided (f x)) (decided (g x)))) (either-decided f g xs p) ∙ by_test (some_of f xs) (some_of g xs) (f x) (g x)
  where
    by_test : (a b c d : Bool) → or_else (or_else (decided a) (decided b)) (or_else (decided c) (decided d)) ≡ or_else (decided (if c then true else a)) (decided (if d then true else b))
    by_test true b true d = refl
    by_test true b false d = refl
    by_test false true true d = refl
    by_test false true false true = refl
    by_test false true false false = refl
    by_test false false true d = refl
    by_test false false false true = refl
    by_test false false false false = refl

-- where the source is there, the destination is, so that all sources may be asked for first
pub ethernet-shared : (head : ℕ) (xs : List ValueRange) (p : Packet) → HasBytes p → 0 < length xs
    → or_else (any_of (λ x. has_tail head x 6) xs p) (any_of (λ x. has_tail head x 0) xs p) ≡ any_of (λ x. or_test (has_tail head x 6) (has_tail head x 0)) xs p
ethernet-shared head xs p bytes some = by_length (cases_lt (length p.captured) 12)
  where
    by_length : (length p.captured < 12) ⊎ (12 ≤ length p.captured)
        → or_else (any_of (λ x. has_tail head x 6) xs p) (any_of (λ x. has_tail head x 0) xs p) ≡ any_of (λ x. or_test (has_tail head x 6) (has_tail head x 0)) xs p
    by_length (inl past) =
        ap (λ v. or_else v (any_of (λ x. has_tail head x 0) xs p)) (tails-missing head 6 xs p past some)
        ∙ sym (any-same (λ x. or_test (has_tail head x 6) (has_tail head x 0)) (λ (x : ValueRange) q. Abort) p
        (λ x. ap (λ v. or_else (check (λ n. is_tail head n x) v) (has_tail head x 0 p)) (number-none p.captured 6 6 past)) xs ∙ any-abort xs p some)
    by_length (inr inside) =
        let source = six-there 6 p bytes inside in
        let destination = six-there 0 p bytes (omega arith) in
        let f : ValueRange → Bool = is_tail head (source.0 * 2 ^ 32 + source.1) in
        let g : ValueRange → Bool = is_tail head (destination.0 * 2 ^ 32 + destination.1) in
        let first : (x : ValueRange) → has_tail head x 6 p ≡ decided (f x) = λ x. ap (check (λ n. is_tail head n x)) source.2 in
        let second : (x : ValueRange) → has_tail head x 0 p ≡ decided (g x) = λ x. ap (check (λ n. is_tail head n x)) destination.2 in
        ap (λ v. or_else v (any_of (λ x. has_tail head x 0) xs p)) (any-same (λ x. has_tail head x 6) (λ x q. decided (f x)) p first xs ∙ any-decided f xs p)
        ∙ ap (or_else (decided (some_of f xs))) (any-same (λ x. has_tail head x 0) (λ x q. decided (g x)) p second xs ∙ any-decided g xs p)
        ∙ sym (either-decided f g xs p)
        ∙ sym (any-same (λ x. or_test (has_tail head x 6) (has_tail head x 0)) (λ x q. or_else (decided (f x)) (decided (g x))) p
        (λ x. ap (λ v. or_else v (has_tail head x 0 p)) (first x) ∙ ap (or_else (decided (f x))) (second x)) xs)
