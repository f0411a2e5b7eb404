-- Numbers that bits are, and how they compare.
use Rattle.std.specs.Prelude.{ℕ, zero, suc, ◌+◌, ◌-◌, ◌*◌, ◌/◌, ◌%◌, ◌^◌, ◌==◌, ◌&&◌, if◌then◌else◌, nat_lt, Bool, true, false}

-- bit i of a number, the lowest being bit 0
abbrev pub is_set : ℕ → ℕ → Bool
is_set n i = (n / 2 ^ i % 2) == 1

abbrev pub digit : Bool → ℕ
digit true = 1
digit false = 0

-- the number that `width` bits are under a mask. The bit named `last` is the lowest, and the one named before it the next.
abbrev pub number_of : (ℕ → Bool) → (last mask : ℕ) → (width : ℕ) → ℕ
number_of v last mask zero = 0
number_of v last mask (suc k) = number_of v last mask k + 2 ^ k * digit (is_set mask k && v (last - k))

-- one of three, by the order of two numbers
abbrev pub by_order : {A : Type 0} → (x number : ℕ) → (less equal greater : A) → A
by_order x number less equal greater = if nat_lt x number then less else (if x == number then equal else greater)

-- the same of two bits
abbrev pub by_bits : {A : Type 0} → (x number : Bool) → (less equal greater : A) → A
by_bits false false less equal greater = equal
by_bits false true less equal greater = less
by_bits true false less equal greater = greater
by_bits true true less equal greater = equal
