-- What is decided of two filters.
use Rattle.std.specs.Prelude.{◌≡◌, Bool, ⊤, ◌<◌, ◌≤◌, ◌^◌, ◌⊎◌, length}
use Rattle.filter_tree.specs.Trees.{Tree}
use Rattle.filter_meaning.specs.declared.verdict.Verdict.TheVariants.{Yes, No, Abort}
use Rattle.filter_meaning.specs.Meaning.{Packet, packet_of, HasBytes, Test, accepts, meaning}
use Rattle.filter_same.specs.declared.witness.Witness.{Witness}
use Rattle.filter_same.specs.declared.sameness.Sameness.{Sameness}
use Rattle.filter_same.specs.declared.sameness.Sameness.TheVariants.{Same, SameAsCaptured, Short, Differ, NotDecided}

-- no more of the packet was captured than was on the wire
abbrev pub IsCaptured : Packet → Type 0
IsCaptured p = length p.captured ≤ p.wire

-- they accept the same packets: of each captured length, and each length on the wire below 2 ^ 32
abbrev pub AcceptSame : (Packet → Bool) → (Packet → Bool) → Type 0
AcceptSame f g = (p : Packet) → HasBytes p → p.wire < 2 ^ 32 → f p ≡ g p

-- they accept the same packets of those of which no more was captured than was on the wire
abbrev pub AcceptSameAsCaptured : (Packet → Bool) → (Packet → Bool) → Type 0
AcceptSameAsCaptured f g = (p : Packet) → HasBytes p → p.wire < 2 ^ 32 → IsCaptured p → f p ≡ g p

-- one says Yes of the packet, and the other No
abbrev pub AreApart : Test → Test → Packet → Type 0
AreApart t u p = ((t p ≡ Yes) × (u p ≡ No)) ⊎ ((t p ≡ No) × (u p ≡ Yes))

-- one says Yes of the packet, and the other aborts
abbrev pub IsShort : Test → Test → Packet → Type 0
IsShort t u p = ((t p ≡ Yes) × (u p ≡ Abort)) ⊎ ((t p ≡ Abort) × (u p ≡ Yes))

-- they are never apart on such packets
abbrev pub AreNeverApart : Test → Test → Type 0
AreNeverApart t u = (p : Packet) → HasBytes p → p.wire < 2 ^ 32 → IsCaptured p → AreApart t u p → ⊥

-- the packet that a witness is
abbrev pub packet : Witness → Packet
packet w = packet_of w.bytes.items w.wire

-- what an answer says of two filters, by what they accept, and by their tests
abbrev pub HoldsOf : (accepted other : Packet → Bool) → Test → Test → Sameness → Type 0
HoldsOf f g t u Same = AcceptSame f g
HoldsOf f g t u SameAsCaptured = AcceptSameAsCaptured f g
HoldsOf f g t u (Short w) = IsCaptured (packet w) × IsShort t u (packet w) × AreNeverApart t u
HoldsOf f g t u (Differ w) = IsCaptured (packet w) × AreApart t u (packet w)
HoldsOf f g t u (NotDecided cause) = ⊤

-- what an answer says of two expressions
abbrev pub Holds : Tree → Tree → Sameness → Type 0
Holds t u s = HoldsOf (accepts t) (accepts u) (meaning t) (meaning u) s
