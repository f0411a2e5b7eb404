-- The numbers that bits of a packet are under a mask.
use Rattle.std.proofs.Common.{◌≡◌, ℕ, zero, suc, ◌+◌, ◌-◌, ◌*◌, ◌%◌, ◌^◌, ◌<◌, ◌≤◌, Bool, ◌&&◌, length, take, drop, sym, ap, ◌∙◌, arith}
use Rattle.std.specs.Prelude.{bit_and, Some}
use Rattle.std.proofs.lemmas.Nat.{and_le_l, and_mask}
use Rattle.std.proofs.Math.Nat.{mod-eq_of_lt}
use Rattle.std.proofs.Math.Numerals.{add-one}
use Rattle.bpfvm.specs.Machine.{big_endian}
use Rattle.filter_meaning.specs.Meaning.{Packet}
use Rattle.filter_bdd.specs.Fields.{is_set, digit, number_of}
use Rattle.filter_bdd.proofs.Numbers.{number-more}
use Rattle.filter_meaning.proofs.Numbers.{number-some}
use Rattle.filter_symbols.specs.Packets.{bit_of, IsPacket, HasHeader}
use Rattle.filter_symbols.proofs.Frames.{field-below, field-bit, mask-bit, wire-bit}

-- bits that are those of a number are it, under the mask
pub number-bits : (v : ℕ → Bool) (last mask x k : ℕ) → ((j : ℕ) → j < k → v (last - j) ≡ is_set x j) → number_of v last mask k ≡ bit_and x mask % 2 ^ k
number-bits v last mask x zero bits = let m = bit_and x mask in let e : 0 ≡ m % 1 = omega arith in e
number-bits v last mask x (suc k) bits =
    let rest = number-bits v last mask x k (λ j less. bits j (omega arith)) in
    ap (λ n. n + 2 ^ k * digit (is_set mask k && v (last - k))) rest
    ∙ ap (λ b. bit_and x mask % 2 ^ k + 2 ^ k * digit (is_set mask k && b)) (bits k (omega arith))
    ∙ ap (λ b. bit_and x mask % 2 ^ k + 2 ^ k * digit b) (mask-bit x mask k)
    ∙ sym (number-more (bit_and x mask) k)
    ∙ ap (λ n. bit_and x mask % 2 ^ n) (add-one k)

pub field-number : (p : Packet) (o n mask : ℕ) → IsPacket p → o + n ≤ length p.captured
    → number_of (bit_of p) (31 + 8 * (o + n)) mask (8 * n) ≡ bit_and (big_endian (take n (drop o p.captured))) mask
field-number p o n mask ok within =
    let x = big_endian (take n (drop o p.captured)) in
    let small = field-below p o n ok within in
    let less = and_le_l x mask in
    number-bits (bit_of p) (31 + 8 * (o + n)) mask x (8 * n) (λ j j_less. field-bit p o n j ok within j_less)
    ∙ mod-eq_of_lt (let e : bit_and x mask < 2 ^ (8 * n) = omega arith in e)

pub wire-number : (p : Packet) (mask : ℕ) → number_of (bit_of p) 31 mask 32 ≡ bit_and p.wire mask % 2 ^ 32
wire-number p mask = number-bits (bit_of p) 31 mask p.wire 32 (λ j less. wire-bit p j less)

-- the low four bits of the first byte of the IPv4 header are its length
pub header-number : (p : Packet) (words : ℕ) → IsPacket p → 15 ≤ length p.captured → HasHeader (Some words) p → number_of (bit_of p) 151 18446744073709551615 4 ≡ words
header-number p words ok there head =
    let x = big_endian (take 1 (drop 14 p.captured)) in
    let small : x < 2 ^ (8 * 1) = field-below p 14 1 ok there in
    number-bits (bit_of p) 151 18446744073709551615 x 4 (λ j less. field-bit p 14 1 j ok there (omega arith))
    ∙ ap (λ n. n % 2 ^ 4) (and_mask x 64 ∙ mod-eq_of_lt (let e : x < 2 ^ 64 = omega arith in e))
    ∙ sym (and_mask x 4)
    ∙ head x (number-some p.captured 14 1 there)
