-- What a device that is read or written says of a call.
use Rattle.std.specs.Prelude.{◌≡◌, ℕ, ◌+◌, ◌%◌, ◌^◌, Result, MatchResult}

-- a call adds one to the failures, modulo 2^64, where it answers an error, and only there
abbrev pub CountsFailure : {T E : Type 0} → ℕ → ℕ → Result T E → Type 0
CountsFailure old new result = MatchResult result (λ _. new ≡ old) (λ _. new ≡ (old + 1) % 2 ^ 64)
