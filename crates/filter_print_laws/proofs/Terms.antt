-- What a primitive has that tokens are read as, and what may come after it.
use Rattle.std.proofs.Common.{◌≡◌, ℕ, ◌<◌, ◌≤◌, Bool, true, false, List, [], ◌∷◌, Option, length, get_or, refl, ◌==◌}
use Rattle.std.specs.Prelude.{◌^◌, bit_and, if◌then◌else◌}
use Rattle.filterlang.specs.declared.token.Kind.{Kind}
use Rattle.filterlang.specs.declared.token.Kind.TheVariants as kind
use Rattle.filterlang.specs.declared.token.Joint.{Joint}
use Rattle.filter_tree.specs.declared.tree.Primitive.{Primitive}
use Rattle.filter_tree.specs.declared.tree.Primitive.TheVariants as primitives
use Rattle.filterlang.specs.Qualifiers.{identified}
use Rattle.filterlang.specs.Grammar.{Prim}
use Rattle.filter_print_laws.proofs.Sequences.{Domain}

-- what the tokens say that a primitive has: numbers within their bounds, an address within its mask, ports in order
abbrev pub IsPrimitive : Primitive → Type 0
IsPrimitive (primitives.Protocol p) = Unit {0}
IsPrimitive (primitives.Net network direction address mask) = (address < 2 ^ 32) × (mask < 2 ^ 32) × ((bit_and address mask == address) ≡ true)
IsPrimitive (primitives.EtherHost direction address) = (length address.octets ≡ 6) × ((i : ℕ) → get_or address.octets i 0 < 256)
IsPrimitive (primitives.Ports transport direction low high) = (low ≤ high) × (high < 65536)
IsPrimitive (primitives.IpProto n) = n < 256
IsPrimitive (primitives.EtherProto n) = (1500 < n) × (n < 65536)
IsPrimitive primitives.EtherBroadcast = Unit {0}
IsPrimitive primitives.EtherMulticast = Unit {0}
IsPrimitive primitives.IpMulticast = Unit {0}
IsPrimitive (primitives.Less n) = n < 2 ^ 32
IsPrimitive (primitives.Greater n) = n < 2 ^ 32

-- what may come after a term
pub data Stops : List Kind → Type 0 where
  stops_end : Stops []
  stops_close : {ks : List Kind} → Stops (kind.Close ∷ ks)
  stops_joint : {j : Joint} {ks : List Kind} → Stops (kind.Joint j ∷ ks)

-- the qualifiers of the nearest primitive, where it has any to give
abbrev pub Nearest : Type 0
Nearest = Option (Domain identified)

-- a primitive is read, and has something to give or not
abbrev pub IsPrimRead : Nearest → List Kind → Primitive → List Kind → Type 0
IsPrimRead q ts p rest = (r : Nearest) × Prim q ts p r rest

-- either of two, by a test
pub either_of : {A : Type 0} (P : A → Type 0) (b : Bool) (x y : A) → (b ≡ true → P x) → (b ≡ false → P y) → P (if b then x else y)
either_of P true x y h k = h refl
either_of P false x y h k = k refl
