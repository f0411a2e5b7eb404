-- A sink that gathers nothing, where it is asked to hand on.
use Rattle.std.proofs.Common.{ℕ, List, Option}
use Rattle.std.specs.Io.KnownBytes.{Keeps}
use Rattle.std.proofs.KnownBytes.{Keeps-refl}

-- nothing was done
pub keeps_itself : (a : Option (List ℕ)) → Keeps a a
keeps_itself a = Keeps-refl a
