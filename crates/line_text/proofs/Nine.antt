-- Nine digits, as `{:09}` writes them.
use Rattle.std.proofs.Common.{◌≡◌, ℕ, ◌-◌, ◌^◌, List, [], ◌++◌, length, false, ap}
use Rattle.std.specs.Prelude.{replicate}
use native.Mathlib.Numerals.{unary_clauses}
use Rattle.std.proofs.lemmas.List.{append-nil}
use Rattle.std.specs.Fmt.{padded_integral, format_spec, char_count}

pub nine_padded : (ds : List ℕ) → padded_integral (format_spec 32 0 4 9 (2 ^ 64 - 1)) false [] ds ≡ replicate (9 - length ds) 48 ++ ds
unfolding padded_integral char_count
nine_padded ds = simp unary_clauses (ap (λ (t : List ℕ). replicate (9 - length ds) 48 ++ t) (append-nil ds))
