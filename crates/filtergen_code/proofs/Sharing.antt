-- Tests in other words: what the forms of a primitive have in common is tested once.
use Rattle.std.proofs.Common.{◌≡◌, ℕ, Bool, true, false, Option, Some, None, refl, sym, ap, ◌∙◌, ◌==◌, if◌then◌else◌, bit_and, not, nat_lt, nat_le, ◌<◌, ◌≤◌, ◌⊎◌, inl, inr, arith}
use Rattle.std.proofs.lemmas.Bool.{cases_lt}
use Rattle.std.proofs.lemmas.Bool.Decides.{nat_tests}
use Rattle.filter_meaning.specs.declared.verdict.Verdict.{Verdict}
use Rattle.filter_meaning.specs.declared.verdict.Verdict.TheVariants.{Yes, No, Abort}
use Rattle.filter_tree.specs.declared.tree.Transport.{Transport}
use Rattle.filter_meaning.specs.Meaning.{Packet, Test, and_then, or_else, opposite, and_test, check, decided, byte, is_type}
use Rattle.filtergen_code.specs.Remaining.{is_unfragmented}
use Rattle.filtergen_code.specs.Parts.{number_of, of_transport}
use Rattle.filtergen_facts.proofs.Members.{and-assoc}
use Rattle.filtergen_code.specs.Entries.{is_first_fragment}

-- no bit is set where the bits are 0
pub no_bit : (v : Option ℕ) (m : ℕ) → opposite (check (λ n. if bit_and n m == 0 then false else true) v) ≡ check (λ n. bit_and n m == 0) v
no_bit None m = refl
no_bit (Some n) m = by_test (bit_and n m == 0)
  where
    by_test : (b : Bool) → opposite (decided (if b then false else true)) ≡ decided b
    by_test true = refl
    by_test false = refl

-- by which of three numbers it is; Abort where there is none
abbrev pub chosen_by : Option ℕ → (ℕ → Bool) → (ℕ → Bool) → (ℕ → Bool) → Verdict → Verdict → Verdict
chosen_by None f g h first other = Abort
chosen_by (Some n) f g h first other = if f n then first else (if g n then other else (if h n then other else No))

-- one of three numbers after a test, and then a test
pub one_of_three : (i : Verdict) (v : Option ℕ) (f g h : ℕ → Bool) (d : Verdict)
    → and_then (and_then i (or_else (or_else (check f v) (check g v)) (check h v))) d
    ≡ or_else (or_else (and_then (and_then i (check f v)) d) (and_then (and_then i (check g v)) d)) (and_then (and_then i (check h v)) d)
one_of_three No v f g h d = refl
one_of_three Abort v f g h d = refl
one_of_three Yes None f g h d = refl
one_of_three Yes (Some n) f g h d = by_test (f n) (g n) (h n) d
  where
    by_test : (a b c : Bool) (d : Verdict) → and_then (or_else (or_else (decided a) (decided b)) (decided c)) d
        ≡ or_else (or_else (and_then (decided a) d) (and_then (decided b) d)) (and_then (decided c) d)
    by_test true b c Yes = refl
    by_test true true true No = refl
    by_test true true false No = refl
    by_test true false true No = refl
    by_test true false false No = refl
    by_test true b c Abort = refl
    by_test false true c Yes = refl
    by_test false true true No = refl
    by_test false true false No = refl
    by_test false true c Abort = refl
    by_test false false c d = refl

-- the same with a further test after the three numbers
pub ports_shared : (i : Verdict) (v : Option ℕ) (f g h : ℕ → Bool) (first d : Verdict)
    → and_then (and_then (and_then i (or_else (or_else (check f v) (check g v)) (check h v))) first) d
    ≡ or_else (or_else (and_then (and_then (and_then i (check f v)) first) d) (and_then (and_then (and_then i (check g v)) first) d)) (and_then (and_then (and_then i (check h v)) first) d)
ports_shared i v f g h first d =
    and-assoc _ first d
    ∙ one_of_three i v f g h (and_then first d)
    ∙ ap (λ x. or_else (or_else x (and_then (and_then i (check g v)) (and_then first d))) (and_then (and_then i (check h v)) (and_then first d))) (sym (and-assoc (and_then i (check f v)) first d))
    ∙ ap (λ x. or_else (or_else (and_then (and_then (and_then i (check f v)) first) d) x) (and_then (and_then i (check h v)) (and_then first d))) (sym (and-assoc (and_then i (check g v)) first d))
    ∙ ap (λ x. or_else (or_else (and_then (and_then (and_then i (check f v)) first) d) (and_then (and_then (and_then i (check g v)) first) d)) x) (sym (and-assoc (and_then i (check h v)) first d))

-- one of two numbers after a test, and then two tests
pub one_of_two : (i : Verdict) (v : Option ℕ) (f g : ℕ → Bool) (first d : Verdict)
    → and_then i (and_then (or_else (check f v) (check g v)) (and_then first d))
    ≡ and_then (or_else (and_then (and_then i (check f v)) first) (and_then (and_then i (check g v)) first)) d
one_of_two No v f g first d = refl
one_of_two Abort v f g first d = refl
one_of_two Yes None f g first d = refl
one_of_two Yes (Some n) f g first d = by_test (f n) (g n) first
  where
    by_test : (a b : Bool) (e : Verdict) → and_then (or_else (decided a) (decided b)) (and_then e d) ≡ and_then (or_else (and_then (decided a) e) (and_then (decided b) e)) d
    by_test true b Yes = refl
    by_test true true No = refl
    by_test true false No = refl
    by_test true b Abort = refl
    by_test false true e = refl
    by_test false false e = refl

-- one of two numbers, by comparisons that follow each other
pub two_numbers : (v : Option ℕ) (f g : ℕ → Bool) → check (λ n. if f n then true else g n) v ≡ or_else (check f v) (check g v)
two_numbers None f g = refl
two_numbers (Some n) f g = by_test (f n) (g n)
  where
    by_test : (a b : Bool) → decided (if a then true else b) ≡ or_else (decided a) (decided b)
    by_test true b = refl
    by_test false b = refl

-- Each of three numbers has its test, and two of them share one. A packet has one number, so that the others are No.
pub by_number : (v : Option ℕ) (f g h : ℕ → Bool) (first other : Verdict)
    → ((n : ℕ) → f n ≡ true → (g n ≡ false) × (h n ≡ false)) → ((n : ℕ) → g n ≡ true → h n ≡ false)
    → chosen_by v f g h first other
    ≡ or_else (or_else (and_then (check f v) first) (and_then (check g v) other)) (and_then (check h v) other)
by_number None f g h first other apart apart' = refl
by_number (Some n) f g h first other apart apart' = by_test (f n) (g n) (h n) first other (apart n) (apart' n)
  where
    none : (d : Verdict) → or_else d No ≡ d
    none Yes = refl
    none No = refl
    none Abort = refl

    by_test : (a b c : Bool) (d e : Verdict) → (a ≡ true → (b ≡ false) × (c ≡ false)) → (b ≡ true → c ≡ false)
        → (if a then d else (if b then e else (if c then e else No))) ≡ or_else (or_else (and_then (decided a) d) (and_then (decided b) e)) (and_then (decided c) e)
    by_test true true c d e apart apart' = absurd (let h = (apart refl).0 in cc)
    by_test true false true d e apart apart' = absurd (let h = (apart refl).1 in cc)
    by_test true false false d e apart apart' = sym (none (or_else d No) ∙ none d)
    by_test false true true d e apart apart' = absurd (let h = apart' refl in cc)
    by_test false true false d e apart apart' = sym (none e)
    by_test false false true d e apart apart' = refl
    by_test false false false d e apart apart' = refl

-- at most is not above
pub at_most : (m n : ℕ) → opposite (check (λ k. nat_lt n k) (Some m)) ≡ decided (nat_le m n)
at_most m n = by_cases (cases_lt n m)
  where
    by_cases : (n < m) ⊎ (m ≤ n) → opposite (decided (nat_lt n m)) ≡ decided (nat_le m n)
    by_cases (inl above) = let h : nat_lt n m ≡ true = grind (arith, nat_tests) in let g : nat_le m n ≡ false = grind (arith, nat_tests) in ap (λ b. opposite (decided b)) h ∙ sym (ap decided g)
    by_cases (inr within) = let h : nat_lt n m ≡ false = grind (arith, nat_tests) in let g : nat_le m n ≡ true = grind (arith, nat_tests) in ap (λ b. opposite (decided b)) h ∙ sym (ap decided g)

pub any_bit : (v : Option ℕ) (m : ℕ) → check (λ n. if bit_and n m == 0 then false else true) v ≡ check (λ n. not (bit_and n m == 0)) v
any_bit None m = refl
any_bit (Some n) m = by_test (bit_and n m == 0)
  where
    by_test : (b : Bool) → decided (if b then false else true) ≡ decided (not b)
    by_test true = refl
    by_test false = refl

-- a first fragment of a protocol, or of any
pub number-first : (asked : Option Transport) (p : Packet) → is_first_fragment asked p ≡ and_test (and_test (is_type 0x0800) (number_of asked)) is_unfragmented p
number-first None p = refl
number-first (Some transport) p = refl

-- what the forms of any protocol share is tested once
pub number-shared : (asked : Option Transport) (t : Test) (p : Packet) → and_test (and_test (and_test (is_type 0x0800) (number_of asked)) is_unfragmented) t p ≡ of_transport asked t p
number-shared None t p = ports_shared (is_type 0x0800 p) (byte 23 p) (λ b. b == 6) (λ b. b == 17) (λ b. b == 132) (is_unfragmented p) (t p)
number-shared (Some transport) t p = refl
