-- The time of a packet, as lines have it.
use Rattle.std.specs.Prelude.{ℕ, ◌-◌, List, ◌++◌, length, replicate}
use Rattle.std.specs.Fmt.{decimal}

-- a number in decimal, with zeros in front up to nine digits
abbrev pub nine_digits : ℕ → List ℕ
nine_digits n = replicate (9 - length (decimal n)) 48 ++ decimal n
