-- Steps of the operations on words, bit by bit. Only private clauses say this.
use Rattle.std.specs.Prelude.{ℕ, zero, suc, ◌+◌, ◌-◌, ◌*◌, ◌/◌, ◌%◌, ◌^◌, ◌<◌, Bool, true, false, List, slice_index, nat_lt, nat_le, if◌then◌else◌}
use Rattle.filter_bdd.specs.declared.answer.Answer.TheVariants.{Final}
use Rattle.filter_bdd.specs.declared.answer.Operation.{Operation}
use Rattle.filter_bdd.specs.declared.table.Node.{Node}
use Rattle.filter_bdd.specs.Answers.{joined, differs}
use Rattle.filter_words.specs.declared.shift.Shift.{Shift}
use Rattle.filter_words.specs.declared.shift.Shift.TheVariants.{Left, Right}
use Rattle.filter_words.specs.declared.sum.FullSum.{FullSum}
use Rattle.filter_words.specs.declared.word.Word.{Word}
use Rattle.filter_words.specs.Words.{is_yes, Says}

-- the first n places are nodes that say these bits
abbrev pub AreBits : List Node → ((ℕ → Bool) → ℕ → Bool) → List ℕ → (n : ℕ) → Type 0
AreBits nodes f bits n = (k : ℕ) → k < n → Says nodes (λ v. f v k) (slice_index bits k)

-- a word has these bits
abbrev pub HasBits : List Node → ((ℕ → Bool) → ℕ → Bool) → Word → Type 0
HasBits nodes f word = AreBits nodes f word.bits 32

-- an operation on two bits
abbrev pub joined_bit : Operation → Bool → Bool → Bool
joined_bit o a b = is_yes (joined o (Final 0 a) (Final 0 b))

-- one of two bits
abbrev pub chosen : (test one other : Bool) → Bool
chosen true one other = one
chosen false one other = other

-- a full adder: the sum of three bits, and what is carried
abbrev pub sum_bit : (a b carry : Bool) → Bool
sum_bit a b carry = differs carry (differs a b)

abbrev pub carry_bit : (a b carry : Bool) → Bool
carry_bit a b carry = chosen (differs a b) carry a

pub record IsFullSum (nodes : List Node) (a b carry : (ℕ → Bool) → Bool) (result : FullSum) : Type 0 where
  pub sum : Says nodes (λ v. sum_bit (a v) (b v) (carry v)) result.sum
  pub carry_out : Says nodes (λ v. carry_bit (a v) (b v) (carry v)) result.carry

-- what is carried into bit k of a sum
unfoldable pub carries : (a b : ℕ → Bool) → (first : Bool) → ℕ → Bool
carries a b first zero = first
carries a b first (suc k) = carry_bit (a k) (b k) (carries a b first k)

-- whether one number is above another, by k bits; or the answer for equal ones
unfoldable pub is_above : (a b : ℕ → Bool) → (equal : Bool) → ℕ → Bool
is_above a b equal zero = equal
is_above a b equal (suc k) = chosen (differs (a k) (b k)) (a k) (is_above a b equal k)

-- the order that it is
abbrev pub ordered : (equal : Bool) → (a b : ℕ) → Bool
ordered true a b = nat_le b a
ordered false a b = nat_lt b a

-- whether k bits are the same
unfoldable pub are_equal : (a b : ℕ → Bool) → ℕ → Bool
are_equal a b zero = true
are_equal a b (suc k) = chosen (differs (a k) (b k)) false (are_equal a b k)

-- a number moved by `count` bits
abbrev pub shifted : Shift → ℕ → ℕ → ℕ
shifted Left n count = (n * 2 ^ count) % 2 ^ 32
shifted Right n count = n / 2 ^ count

-- what place k of a word gets where its items are moved by `count` places
abbrev pub moved : {A : Type 0} → Shift → (ℕ → A) → (none : A) → (count k : ℕ) → A
moved Left items none count k = if nat_lt k count then none else items (k - count)
moved Right items none count k = if nat_lt (k + count) 32 then items (k + count) else none

-- the items of the first `width` places, and one item above them
abbrev pub padded : {A : Type 0} → (ℕ → A) → (none : A) → (width k : ℕ) → A
padded items none width k = if nat_lt k width then items k else none

-- the eight items of a byte, and those of a word above them
abbrev pub after_byte : {A : Type 0} → (byte word : ℕ → A) → (k : ℕ) → A
after_byte byte word k = if nat_lt k 8 then byte k else word (k - 8)

-- an item, and those of a word above it
abbrev pub pushed : {A : Type 0} → (item : A) → (word : ℕ → A) → (k : ℕ) → A
pushed item word k = if nat_lt k 1 then item else word (k - 1)
