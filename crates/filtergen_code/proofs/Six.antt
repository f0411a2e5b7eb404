-- Bytes as a number, and four bytes under a mask of ones.
use Rattle.std.proofs.Common.{◌≡◌, ℕ, zero, suc, ◌+◌, ◌-◌, ◌*◌, ◌<◌, ◌≤◌, Bool, List, [], ◌∷◌, ◌++◌, length, take, drop, refl, sym, ap, ◌∙◌, arith, ◌⊎◌, inl, inr, bit_and, ◌^◌, ◌%◌, Some, option_map}
use Rattle.std.proofs.lemmas.Nat.{and_mask}
use Rattle.std.specs.List.{AllByRecursion, fold}
use Rattle.std.proofs.lemmas.Bool.{cases_lt}
use Rattle.bpfvm.specs.Machine.{big_endian}
use Rattle.filter_meaning.proofs.Numbers.{number-some, number-none}
use Rattle.filter_meaning.specs.Meaning.{Packet, HasBytes, check, decided, word}

pub fold-joined : (xs ys : List ℕ) (a : ℕ) → fold (λ n byte. 256 * n + byte) a (xs ++ ys) ≡ fold (λ n byte. 256 * n + byte) (fold (λ n byte. 256 * n + byte) a xs) ys
fold-joined [] ys a = refl
fold-joined (x ∷ xs) ys a = fold-joined xs ys (256 * a + x)

pub all-dropped : (n : ℕ) (xs : List ℕ) → AllByRecursion (λ byte. byte < 256) xs → AllByRecursion (λ byte. byte < 256) (drop n xs)
all-dropped zero xs all = all
all-dropped (suc n) [] all = all
all-dropped (suc n) (x ∷ xs) all = all-dropped n xs all.1

-- four bytes are below 2 ^ 32
pub four_below : (xs : List ℕ) → AllByRecursion (λ byte. byte < 256) xs → big_endian (take 4 xs) < 2 ^ 32
four_below [] all = omega arith
four_below (a ∷ []) all = omega (arith, all.0)
four_below (a ∷ b ∷ []) all = omega (arith, all.0, all.1.0)
four_below (a ∷ b ∷ c ∷ []) all = omega (arith, all.0, all.1.0, all.1.1.0)
four_below (a ∷ b ∷ c ∷ d ∷ xs) all = omega (arith, all.0, all.1.0, all.1.1.0, all.1.1.1.0)

ones : (n : ℕ) → n < 2 ^ 32 → bit_and n 4294967295 ≡ n
ones n below = let h : bit_and n (2 ^ 32 - 1) ≡ n % 2 ^ 32 = and_mask n 32 in h ∙ (let g : n % 2 ^ 32 ≡ n = omega (arith, below) in g)

-- a mask of ones leaves them as they are
pub whole_mask : (o : ℕ) (f : ℕ → Bool) (p : Packet) → HasBytes p → check f (word o p) ≡ check (λ w. f (bit_and w 4294967295)) (word o p)
whole_mask o f p bytes = by_length (cases_lt (length p.captured) (o + 4))
  where
    by_length : (length p.captured < o + 4) ⊎ (o + 4 ≤ length p.captured) → check f (word o p) ≡ check (λ w. f (bit_and w 4294967295)) (word o p)
    by_length (inl past) = let h = number-none p.captured o 4 past in ap (check f) h ∙ sym (ap (check (λ w. f (bit_and w 4294967295))) h)
    by_length (inr inside) =
        let h = number-some p.captured o 4 inside in
        let n = big_endian (take 4 (drop o p.captured)) in
        ap (check f) h ∙ sym (ap (λ w. decided (f w)) (ones n (four_below (drop o p.captured) (all-dropped o p.captured bytes)))) ∙ sym (ap (check (λ w. f (bit_and w 4294967295))) h)

pub whole_bits : (o : ℕ) (p : Packet) → HasBytes p → word o p ≡ option_map (λ w. bit_and w 4294967295) (word o p)
whole_bits o p bytes = by_length (cases_lt (length p.captured) (o + 4))
  where
    by_length : (length p.captured < o + 4) ⊎ (o + 4 ≤ length p.captured) → word o p ≡ option_map (λ w. bit_and w 4294967295) (word o p)
    by_length (inl past) = let h = number-none p.captured o 4 past in h ∙ sym (ap (option_map (λ w. bit_and w 4294967295)) h)
    by_length (inr inside) =
        let h = number-some p.captured o 4 inside in
        let n = big_endian (take 4 (drop o p.captured)) in
        h ∙ sym (ap Some (ones n (four_below (drop o p.captured) (all-dropped o p.captured bytes)))) ∙ sym (ap (option_map (λ w. bit_and w 4294967295)) h)
