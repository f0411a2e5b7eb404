-- Division with a rest. Only private clauses say this.
use Rattle.std.specs.Prelude.{◌≡◌, ℕ, ◌+◌, ◌*◌, ◌^◌, ◌<◌, Bool, List}
use Rattle.filter_bdd.specs.declared.table.Node.{Node}
use Rattle.filter_bdd.specs.Fields.{digit}
use Rattle.filter_words.specs.declared.quotient.Division.{Division}
use Rattle.filter_words.specs.declared.word.Word.{Word}
use Rattle.filter_words.specs.Words.{bit, IsWord, value}

-- a quotient, and a rest that is less than the divisor
pub record IsDivided (dividend divisor quotient rest : ℕ) : Type 0 where
  pub whole : dividend ≡ quotient * divisor + rest
  pub less : rest < divisor

-- a division by one more bit of the dividend
pub record HasDividedBit (old new : List Node) (division : Division) (next : ℕ) (divisor : Word) (result : Division) : Type 0 where
  pub quotient : IsWord new result.quotient
  pub rest : IsWord new result.rest
  pub is : (v : ℕ → Bool) (n : ℕ) → IsDivided n (value old v divisor) (value old v division.quotient) (value old v division.rest)
      → 2 * n + digit (bit old v next) < 2 ^ 32
      → IsDivided (2 * n + digit (bit old v next)) (value old v divisor) (value new v result.quotient) (value new v result.rest)

-- a division by what is not 0
pub record HasDivided (old new : List Node) (dividend : (ℕ → Bool) → ℕ) (divisor : Word) (result : Division) : Type 0 where
  pub quotient : IsWord new result.quotient
  pub rest : IsWord new result.rest
  pub is : (v : ℕ → Bool) → 0 < value old v divisor → IsDivided (dividend v) (value old v divisor) (value new v result.quotient) (value new v result.rest)
