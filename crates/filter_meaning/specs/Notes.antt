-- What is noted while a test looks. Only private clauses say this.
use Rattle.std.specs.Prelude.{◌≡◌, ◌⊎◌, ℕ, List, ◌++◌, Option, None, option_map}
use Rattle.filter_meaning.specs.declared.frame.Look.{Look}
use Rattle.filter_meaning.specs.declared.primitives.Side.{Side}
use Rattle.filter_meaning.specs.declared.primitives.Side.TheVariants as sides
use Rattle.filter_meaning.specs.Meaning.{Packet, address_number}
use Rattle.filter_meaning.specs.Looks.{Asked, address_asked, ether_asked, port_asked}

-- These looks were noted after the others, unless memory for them was refused. Where notes are not kept, none are.
abbrev pub Noted : (old new : Option (List Look)) → List Look → Type 0
Noted old new looks = (new ≡ None) ⊎ (new ≡ option_map (λ kept. kept ++ looks) old)

-- what a side is asked
abbrev pub side_asked : Side → ℕ → Packet → Asked
side_asked (sides.Address address mask) = address_asked address mask
side_asked (sides.Ether address) = ether_asked (address_number address.octets)
side_asked (sides.Port low high) = port_asked low high
