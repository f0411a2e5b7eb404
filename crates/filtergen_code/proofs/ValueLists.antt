-- One test for all members of a list answers as their tests do one after the other.
use Rattle.std.proofs.Common.{◌≡◌, ◌≢◌, ℕ, ◌<◌, ◌==◌, Bool, true, false, List, [], ◌∷◌, ◌++◌, length, Option, Some, None, refl, sym, ap, ◌∙◌, if◌then◌else◌}
use Rattle.filtergen_facts.specs.declared.lists.ValueRange.{ValueRange}
use Rattle.filter_meaning.specs.declared.verdict.Verdict.{Verdict}
use Rattle.filter_meaning.specs.declared.verdict.Verdict.TheVariants.{Yes, No, Abort}
use Rattle.filter_meaning.specs.Meaning.{Packet, Test, or_else, check, decided, within}
use Rattle.filtergen_facts.specs.Lists.{any_of}
use Rattle.filtergen_code.specs.ValueLists.{in_ranges}
use Rattle.filtergen_facts.proofs.Members.{any-first}
use Rattle.filtergen_facts.proofs.Joining.{any-same, any-abort, any-no}
use Rattle.filtergen_code.proofs.Runs.{equal-true}
use Rattle.filtergen_code.proofs.Sharing.{chosen_by}

-- what all members compare first is compared once
pub any-chosen : {X : Type 0} (v : Option ℕ) (f g h : ℕ → Bool) (t u : X → Test) (xs : List X) (p : Packet) → 0 < length xs
    → any_of (λ x q. chosen_by v f g h (t x p) (u x p)) xs p ≡ chosen_by v f g h (any_of t xs p) (any_of u xs p)
any-chosen None f g h t u xs p some = any-abort xs p some
any-chosen (Some n) f g h t u xs p some = by_test (f n) (g n) (h n)
  where
    by_test : (a b c : Bool) → any_of (λ x q. if a then t x p else (if b then u x p else (if c then u x p else No))) xs p
        ≡ (if a then any_of t xs p else (if b then any_of u xs p else (if c then any_of u xs p else No)))
    by_test true b c = any-same (λ x q. t x p) t p (λ x. refl) xs
    by_test false true c = any-same (λ x q. u x p) u p (λ x. refl) xs
    by_test false false true = any-same (λ x q. u x p) u p (λ x. refl) xs
    by_test false false false = any-no xs p

pub decided-either : (b c : Bool) → or_else (decided b) (decided c) ≡ decided (if c then true else b)
decided-either true true = refl
decided-either true false = refl
decided-either false true = refl
decided-either false false = refl

decided-yes : (b : Bool) → decided b ≡ Yes → b ≡ true
decided-yes true is = refl
decided-yes false is = absurd cc

decided-there : (b : Bool) → decided b ≡ Abort → ⊥
decided-there true is = absurd cc
decided-there false is = absurd cc

-- one number that is there
pub among-decided : (xs : List ValueRange) (p : Packet) (n : ℕ) → any_of (λ (x : ValueRange) q. decided (within x.low x.high n)) xs p ≡ decided (in_ranges xs n)
among-decided [] p n = refl
among-decided (x ∷ xs) p n = ap (λ v. or_else v (decided (within x.low x.high n))) (among-decided xs p n) ∙ decided-either (in_ranges xs n) (within x.low x.high n)

-- one number is asked for once
pub any-checked : (xs : List ValueRange) (p : Packet) (v : Option ℕ) → 0 < length xs → any_of (λ (x : ValueRange) q. check (within x.low x.high) v) xs p ≡ check (in_ranges xs) v
any-checked xs p None some = any-abort xs p some
any-checked xs p (Some n) some = among-decided xs p n

pub among-more : (xs : List ValueRange) (x : ValueRange) (n : ℕ) → in_ranges (xs ++ (x ∷ [])) n ≡ (if within x.low x.high n then true else in_ranges xs n)
among-more [] x n = refl
among-more (y ∷ xs) x n = ap (λ b. if within y.low y.high n then true else b) (among-more xs x n) ∙ by_test (within y.low y.high n) (within x.low x.high n) (in_ranges xs n)
  where
    by_test : (a b c : Bool) → (if a then true else (if b then true else c)) ≡ (if b then true else (if a then true else c))
    by_test true true c = refl
    by_test true false c = refl
    by_test false b c = refl

-- what a number answers of IPv4, whose type it is asked of
pub type-known : (f : ℕ → Bool) (v : Option ℕ) → check (λ n. n == 0x0800) v ≡ Yes → check f v ≡ decided (f 0x0800)
type-known f None is = absurd cc
type-known f (Some n) is = let same : n ≡ 0x0800 = equal-true n 0x0800 (decided-yes (n == 0x0800) is) in ap (λ k. decided (f k)) same

pub type-missing : (f : ℕ → Bool) (v : Option ℕ) → check (λ n. n == 0x0800) v ≡ Abort → check f v ≡ Abort
type-missing f None is = refl
type-missing f (Some n) is = absurd (decided-there (n == 0x0800) is)

pub other-number : (n : ℕ) → n ≢ 0x0800 → (0x0800 == n) ≡ false
other-number n other = by_test (0x0800 == n) (λ is. other (sym (equal-true 0x0800 n is)))
  where
    by_test : (b : Bool) → (b ≡ true → ⊥) → b ≡ false
    by_test true none = absurd (none refl)
    by_test false none = refl

-- two numbers that are there
pairs-decided : (xs : List ValueRange) (p : Packet) (m n : ℕ)
    → any_of (λ (x : ValueRange) q. or_else (decided (within x.low x.high m)) (decided (within x.low x.high n))) xs p ≡ or_else (decided (in_ranges xs m)) (decided (in_ranges xs n))
pairs-decided [] p m n = refl
pairs-decided (x ∷ xs) p m n = ap (λ v. or_else v (or_else (decided (within x.low x.high m)) (decided (within x.low x.high n)))) (pairs-decided xs p m n) ∙ by_test (in_ranges xs m) (in_ranges xs n) (within x.low x.high m) (within x.low x.high n)
  where
    by_test : (a b c d : Bool) → or_else (or_else (decided a) (decided b)) (or_else (decided c) (decided d)) ≡ or_else (decided (if c then true else a)) (decided (if d then true else b))
    by_test true b true d = refl
    by_test true b false d = refl
    by_test false true true d = refl
    by_test false true false true = refl
    by_test false true false false = refl
    by_test false false true d = refl
    by_test false false false true = refl
    by_test false false false false = refl

-- Of two numbers, the first member asks for its source and its destination. When both are there, the others ask for the
-- destination together, and then for the source.
pub any-pair : (xs : List ValueRange) (x : ValueRange) (p : Packet) (v w : Option ℕ)
    → or_else (check (in_ranges (x ∷ [])) v) (or_else (check (in_ranges (xs ++ (x ∷ []))) w) (check (in_ranges xs) v))
    ≡ any_of (λ (y : ValueRange) q. or_else (check (within y.low y.high) v) (check (within y.low y.high) w)) (xs ++ (x ∷ [])) p
any-pair xs x p None w = sym (any-first (λ (y : ValueRange) q. Abort) p x xs)
any-pair xs x p (Some m) None = by_test (within x.low x.high m) _ ∙ sym (any-first (λ (y : ValueRange) q. or_else (decided (within y.low y.high m)) Abort) p x xs)
  where
    by_test : (b : Bool) (u : Verdict) → or_else (decided (if b then true else false)) Abort ≡ or_else (or_else (decided b) Abort) u
    by_test true u = refl
    by_test false u = refl
any-pair xs x p (Some m) (Some n) =
    ap (λ b. or_else (decided (if within x.low x.high m then true else false)) (or_else (decided b) (decided (in_ranges xs m)))) (among-more xs x n)
    ∙ by_test (within x.low x.high m) (within x.low x.high n) (in_ranges xs m) (in_ranges xs n)
    ∙ ap (or_else (or_else (decided (within x.low x.high m)) (decided (within x.low x.high n)))) (sym (pairs-decided xs p m n))
    ∙ sym (any-first (λ (y : ValueRange) q. or_else (decided (within y.low y.high m)) (decided (within y.low y.high n))) p x xs)
  where
    by_test : (a b c d : Bool)
        → or_else (decided (if a then true else false)) (or_else (decided (if b then true else d)) (decided c)) ≡ or_else (or_else (decided a) (decided b)) (or_else (decided c) (decided d))
    by_test true b c d = refl
    by_test false true c d = refl
    by_test false false true true = refl
    by_test false false true false = refl
    by_test false false false true = refl
    by_test false false false false = refl
