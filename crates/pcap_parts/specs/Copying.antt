-- What copying the file of a part does.
use Rattle.std.specs.Prelude.{◌≡◌, ◌≢◌, ◌⊎◌, ℕ, ◌+◌, ◌<◌, ◌%◌, ◌^◌, List, ◌++◌, length, Option, Result, MatchResult, ⊤}
use Rattle.std.specs.Io.KnownBytes.{Appends, Consumes, IsAtEnd}
use Rattle.pcap_parts.specs.declared.copy.CopyFault.{CopyFault}
use Rattle.pcap_parts.specs.declared.copy.CopyFault.TheVariants.{Input, Size, Output}

-- a source gave a header of 24 bytes, and a body, to its end: `count` bytes together; the sink took the body
pub record Copies (left-old left-new taken-old taken-new : Option (List ℕ)) (count : ℕ) : Type 0 where
  pub header : List ℕ
  pub body : List ℕ
  pub header_size : length header ≡ 24
  pub size : length (header ++ body) ≡ count
  pub given : Consumes left-old left-new (header ++ body)
  pub ended : IsAtEnd left-new
  pub taken : Appends taken-old taken-new body

-- a file has another number of bytes than that, or that is too few for a header
abbrev pub IsOtherSize : ℕ → List ℕ → Type 0
IsOtherSize count bytes = (count < 24) ⊎ (length bytes ≢ count)

-- if the size is the fault this is so
abbrev pub IfSize : Type 0 → CopyFault → Type 0
IfSize A Size = A
IfSize A Input = ⊤
IfSize A Output = ⊤

-- the source counts a failure if that is the fault, and only then
abbrev pub CountsInputOf : ℕ → ℕ → CopyFault → Type 0
CountsInputOf old new Input = new ≡ (old + 1) % 2 ^ 64
CountsInputOf old new Size = new ≡ old
CountsInputOf old new Output = new ≡ old

abbrev pub CountsInput : {T : Type 0} → ℕ → ℕ → Result T CopyFault → Type 0
CountsInput old new result = MatchResult result (λ _. new ≡ old) (CountsInputOf old new)

-- so does the sink
abbrev pub CountsOutputOf : ℕ → ℕ → CopyFault → Type 0
CountsOutputOf old new Input = new ≡ old
CountsOutputOf old new Size = new ≡ old
CountsOutputOf old new Output = new ≡ (old + 1) % 2 ^ 64

abbrev pub CountsOutput : {T : Type 0} → ℕ → ℕ → Result T CopyFault → Type 0
CountsOutput old new result = MatchResult result (λ _. new ≡ old) (CountsOutputOf old new)
