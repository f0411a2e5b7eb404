-- Numbers, as C and bpf_asm spell them.
use Rattle.std.specs.Prelude.{ℕ, ◌+◌, ◌-◌, ◌*◌, ◌==◌, ◌||◌, nat_le, nat_eq, if◌then◌else◌, List, [], ◌∷◌, Option, Some, None, drop, option_and_then, codes}
use Rattle.std.specs.Char.{is_digit, digit_value}
use Rattle.std.specs.List.{starts_with}

-- the value, where it is at most the limit
abbrev pub at_most : ℕ → Option ℕ → Option ℕ
at_most limit None = None
at_most limit (Some n) = if nat_le n limit then Some n else None

-- the number that digits of a base spell after this number
abbrev pub number_after : ℕ → ℕ → List ℕ → Option ℕ
number_after base n [] = Some n
number_after base n (b ∷ bs) = if is_digit b base then number_after base (n * base + digit_value b) bs else None

-- the number that the bytes spell, where they are digits of the base, one at least
abbrev pub numeral : ℕ → List ℕ → Option ℕ
numeral base [] = None
numeral base (b ∷ bs) = number_after base 0 (b ∷ bs)

-- decimal digits, with zeros in front or without
abbrev pub decimal_of : List ℕ → Option ℕ
decimal_of digits = at_most 4294967295 (numeral 10 digits)

-- the negation of a number up to 2,147,483,648, in two's complement
abbrev pub negative : ℕ → Option ℕ
negative n = if n == 0 then Some 0 else (if nat_le n 2147483648 then Some (4294967296 - n) else None)

-- decimal, with a minus sign or without, octal after 0, or hexadecimal after 0x or 0X, up to 4,294,967,295
abbrev pub number_of : List ℕ → Option ℕ
number_of run =
    if starts_with nat_eq run (codes "-") then option_and_then negative (at_most 4294967295 (numeral 10 (drop 1 run)))
    else (if starts_with nat_eq run (codes "0x") || starts_with nat_eq run (codes "0X") then at_most 4294967295 (numeral 16 (drop 2 run))
    else (if starts_with nat_eq run (codes "0") then at_most 4294967295 (numeral 8 run)
    else at_most 4294967295 (numeral 10 run)))
