-- What a writer took of a text.
use Rattle.std.specs.Prelude.{ℕ, List, Option, Result, MatchResult}
use Rattle.std.specs.Io.KnownBytes.{Appends}
use Rattle.savefile.specs.Writer.{IsBeginning}

-- between two states a writer took a beginning of this text, and no more
pub record TakesPart (old new : Option (List ℕ)) (text : List ℕ) : Type 0 where
  pub part : List ℕ
  pub begins : IsBeginning part text
  pub appends : Appends old new part

-- where the call answers Ok the writer took this text, and else a beginning of it
abbrev pub Takes : {A E : Type 0} → Option (List ℕ) → Option (List ℕ) → Result A E → List ℕ → Type 0
Takes old new result text = MatchResult result (λ _. Appends old new text) (λ _. TakesPart old new text)

-- What standard output and standard error took so far, if they know it.
pub record Streams : Type 0 where
  pub out : Option (List ℕ)
  pub err : Option (List ℕ)

abbrev pub streams : Option (List ℕ) → Option (List ℕ) → Streams
streams out err = record { out = out; err = err }
