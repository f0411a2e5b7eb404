-- What is added to a line.
use Rattle.std.proofs.Common.{◌≡◌, List, ℕ, ◌++◌, Option, Some, None}
use Rattle.std.specs.Fmt.{WritesText, AppendsText}
use Rattle.std.proofs.lemmas.Fmt.{contents_after_writes}
use Rattle.arrayvec.specs.ArrayString.{ArrayString}

-- where each call adds its bytes, what was written is added
pub line_adds : (s t : ArrayString) (o : Option (List ℕ)) → WritesText (λ s bytes t. t.bytes ≡ s.bytes ++ bytes) s o t → AppendsText s.bytes t.bytes o
line_adds s t None wrote = tt
line_adds s t (Some bytes) wrote = contents_after_writes _ (λ s. s.bytes) (λ _ _ _ is. is) s bytes t wrote
