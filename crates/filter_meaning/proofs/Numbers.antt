-- The numbers that the bytes of a packet are.
use Rattle.std.proofs.Common.{◌≡◌, ℕ, suc, ◌+◌, ◌<◌, ◌≤◌, List, [], ◌∷◌, length, take, drop, Some, None, ap, ◌∙◌, arith, nat_le, true, false, if◌then◌else◌, get_or, drop-cons}
use Rattle.std.proofs.lemmas.Bool.Decides.{nat_tests}
use Rattle.std.specs.Int.{w64, from_be_bytes}
use Rattle.bpfvm.specs.Machine.{big_endian, number_at}

-- a number of bytes that are all there
pub number-some : (b : List ℕ) (o n : ℕ) → o + n ≤ length b → number_at b o n ≡ Some (big_endian (take n (drop o b)))
unfolding number_at
number-some b o n within = let h : nat_le (o + n) (length b) ≡ true = grind (arith, nat_tests) in ap (λ c. if c then Some (big_endian (take n (drop o b))) else None) h

-- one that is past the end is none
pub number-none : (b : List ℕ) (o n : ℕ) → length b < o + n → number_at b o n ≡ None
unfolding number_at
number-none b o n past = let h : nat_le (o + n) (length b) ≡ false = grind (arith, nat_tests) in ap (λ c. if c then Some (big_endian (take n (drop o b))) else None) h

-- six bytes are what `from_be_bytes` makes of them
pub number-six : (b : List ℕ) (o : ℕ) → o + 6 ≤ length b
    → number_at b o 6 ≡ Some (from_be_bytes w64 (0 ∷ 0 ∷ get_or b o 0 ∷ get_or b (o + 1) 0 ∷ get_or b (o + 2) 0 ∷ get_or b (o + 3) 0 ∷ get_or b (o + 4) 0 ∷ get_or b (o + 5) 0 ∷ []))
number-six b o inside =
    let first = drop-cons b o 0 (omega arith) in
    let second = drop-cons b (suc o) 0 (omega arith) in
    let third = drop-cons b (suc (suc o)) 0 (omega arith) in
    let fourth = drop-cons b (suc (suc (suc o))) 0 (omega arith) in
    let fifth = drop-cons b (suc (suc (suc (suc o)))) 0 (omega arith) in
    let sixth = drop-cons b (suc (suc (suc (suc (suc o))))) 0 (omega arith) in
    let five : suc (suc (suc (suc (suc o)))) ≡ o + 5 = omega arith in
    let four : suc (suc (suc (suc o))) ≡ o + 4 = omega arith in
    let three : suc (suc (suc o)) ≡ o + 3 = omega arith in
    let two : suc (suc o) ≡ o + 2 = omega arith in
    let one : suc o ≡ o + 1 = omega arith in
    number-some b o 6 inside ∙ rw (first, second, third, fourth, fifth, sixth, five, four, three, two, one) (ap (λ n. Some n) (omega arith))
