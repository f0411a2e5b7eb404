-- Words: 32 nodes that each say Yes or No of every packet, and the number that they are.
use Rattle.std.specs.Prelude.{◌≡◌, ℕ, zero, suc, ◌+◌, ◌*◌, ◌^◌, ◌<◌, Bool, false, List, slice_index, IfSome}
use Rattle.bpfvm.specs.Codes.{Arithmetic}
use Rattle.bpfvm.specs.Machine.{calculated}
use Rattle.filter_bdd.specs.declared.answer.Answer.{Answer}
use Rattle.filter_bdd.specs.declared.answer.Answer.TheVariants.{Final, Never}
use Rattle.filter_bdd.specs.declared.table.Node.{Node}
use Rattle.filter_bdd.specs.Diagrams.{answer, Gives}
use Rattle.filter_bdd.specs.Fields.{digit}
use Rattle.filter_words.specs.declared.word.Word.{Word}

-- the number that the first `width` bits are, the first one the lowest
unfoldable pub number : (ℕ → Bool) → (width : ℕ) → ℕ
number bits zero = 0
number bits (suc k) = number bits k + 2 ^ k * digit (bits k)

-- whether an answer is Yes
abbrev pub is_yes : Answer → Bool
is_yes (Final need says) = says
is_yes Never = false

-- whether node i says Yes at an assignment of bits
abbrev pub bit : List Node → (ℕ → Bool) → ℕ → Bool
bit nodes v i = is_yes (answer nodes v i)

-- node i says this at each assignment, and needs no captured byte
abbrev pub Says : List Node → ((ℕ → Bool) → Bool) → ℕ → Type 0
Says nodes f i = Gives nodes (λ v. Final 0 (f v)) i

-- node i is a bit: it says Yes or No of every packet
abbrev pub IsBit : List Node → ℕ → Type 0
IsBit nodes i = Says nodes (λ v. bit nodes v i) i

-- bit k of a word
abbrev pub word_bit : List Node → (ℕ → Bool) → Word → ℕ → Bool
word_bit nodes v word k = bit nodes v (slice_index word.bits k)

abbrev pub IsWord : List Node → Word → Type 0
IsWord nodes word = (k : ℕ) → k < 32 → IsBit nodes (slice_index word.bits k)

-- the number that a word is at an assignment
unfoldable pub value : List Node → (ℕ → Bool) → Word → ℕ
value nodes v word = number (word_bit nodes v word) 32

-- a word is this number at each assignment
pub record HasValue (nodes : List Node) (f : (ℕ → Bool) → ℕ) (word : Word) : Type 0 where
  pub inside : IsWord nodes word
  pub is : (v : ℕ → Bool) → value nodes v word ≡ f v

-- A word of a table that grew is what the machine calculates of two others, at each assignment. Where a divisor is 0 it calculates nothing,
-- and the word is any number.
pub record Calculates (old new : List Node) (f : Arithmetic) (first second result : Word) : Type 0 where
  pub inside : IsWord new result
  pub is : (v : ℕ → Bool) → IfSome (calculated f (value old v first) (value old v second)) (λ n. value new v result ≡ n)
