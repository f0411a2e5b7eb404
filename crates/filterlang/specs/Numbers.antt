-- Numbers and addresses, as pcap-filter(7) spells them.
use Rattle.std.specs.Prelude.{ℕ, ◌+◌, ◌*◌, Bool, ◌||◌, ◌==◌, nat_le, nat_eq, if◌then◌else◌, List, [], ◌∷◌, Option, Some, None, length, drop, option_map, option_and_then, codes}
use Rattle.std.specs.Char.{is_ascii_alphanumeric, is_digit, digit_value}
use Rattle.std.specs.Int.{w32, from_be_bytes}
use Rattle.std.specs.List.{take_while, slice_split, list_any, starts_with}
use Rattle.filterlang.specs.Types.{Kind, Two, Three, Four}
use Rattle.filterlang.specs.Types.kind

-- a letter, a digit, or this mark
abbrev pub is_in_run : ℕ → ℕ → Bool
is_in_run mark b = is_ascii_alphanumeric b || b == mark

-- the longest run of letters, digits and this mark at the front of the text
abbrev pub run_at : ℕ → List ℕ → List ℕ
run_at mark text = take_while (is_in_run mark) text

-- the value, where it is at most the limit
abbrev pub at_most : ℕ → Option ℕ → Option ℕ
at_most limit None = None
at_most limit (Some n) = if nat_le n limit then Some n else None

-- the number that digits of a base spell after this number
abbrev pub number_behind : ℕ → ℕ → List ℕ → Option ℕ
number_behind base n [] = Some n
number_behind base n (b ∷ bs) = if is_digit b base then number_behind base (n * base + digit_value b) bs else None

-- the number that the bytes spell, where they are digits of the base, one at least
abbrev pub numeral : ℕ → List ℕ → Option ℕ
numeral base [] = None
numeral base (b ∷ bs) = number_behind base 0 (b ∷ bs)

-- decimal, octal after 0, or hexadecimal after 0x or 0X, up to 4,294,967,295
abbrev pub number_of : List ℕ → Option ℕ
number_of run = at_most 4294967295 (
    if starts_with nat_eq run (codes "0x") || starts_with nat_eq run (codes "0X") then numeral 16 (drop 2 run)
    else (if starts_with nat_eq run (codes "0") then numeral 8 run
    else numeral 10 run))

-- a part of an address: at most this many digits, and up to 255
abbrev pub octet : ℕ → ℕ → List ℕ → Option ℕ
octet base most part = if nat_le (length part) most then at_most 255 (numeral base part) else None

-- the parts of an address, where each of them is one
abbrev pub octets : ℕ → ℕ → List (List ℕ) → Option (List ℕ)
octets base most [] = Some []
octets base most (part ∷ parts) = option_and_then (λ n. option_map (λ ns. n ∷ ns) (octets base most parts)) (octet base most part)

-- two, three or four decimal parts; those that are missing on the right are 0
abbrev pub dotted : List ℕ → Option Kind
dotted (a ∷ b ∷ []) = Some (kind.Dotted (from_be_bytes w32 (a ∷ b ∷ 0 ∷ 0 ∷ [])) Two)
dotted (a ∷ b ∷ c ∷ []) = Some (kind.Dotted (from_be_bytes w32 (a ∷ b ∷ c ∷ 0 ∷ [])) Three)
dotted (a ∷ b ∷ c ∷ d ∷ []) = Some (kind.Dotted (from_be_bytes w32 (a ∷ b ∷ c ∷ d ∷ [])) Four)
dotted _ = None

-- parts of one to three decimal digits with dots between them
abbrev pub dotted_of : List ℕ → Option Kind
dotted_of run = option_and_then dotted (octets 10 3 (slice_split (λ b. b == 46) run))

-- the run of letters, digits and dots is a dotted address where it has a dot, else a number
unfoldable pub number_or_dotted_at : List ℕ → Option (Kind × ℕ)
number_or_dotted_at text =
    let run = run_at 46 text in
    option_map (λ kind. (kind, length run)) (if list_any (λ b. b == 46) run then dotted_of run else option_map kind.Number (number_of run))

-- six numbers, which are the octets in network order
abbrev pub ethernet : List ℕ → Option Kind
ethernet numbers = if length numbers == 6 then Some (kind.Ethernet (record { octets = numbers })) else None

-- six groups of one or two hexadecimal digits with colons between them
abbrev pub ethernet_of : List ℕ → Option Kind
ethernet_of run = option_and_then ethernet (octets 16 2 (slice_split (λ b. b == 58) run))

-- the text begins with such groups, and no letter, digit or colon follows them: they are the whole run of these
unfoldable pub ethernet_at : List ℕ → Option (Kind × ℕ)
ethernet_at text =
    let run = run_at 58 text in
    option_map (λ kind. (kind, length run)) (ethernet_of run)
