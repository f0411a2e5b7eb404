-- What is claimed of packets by the nodes of decision diagrams. Only private clauses say this.
use Rattle.std.specs.Prelude.{◌≡◌, ⊤, ℕ, ◌<◌, List, length, Option}
use Rattle.filter_meaning.specs.declared.verdict.Verdict.TheVariants.{No}
use Rattle.filter_meaning.specs.Meaning.{Packet, Test, is_yes}
use Rattle.filter_bdd.specs.declared.table.Node.{Node}
use Rattle.filter_symbols.specs.declared.symbol.Symbols.{Symbols}
use Rattle.filter_same.specs.declared.find.Claim.{Claim}
use Rattle.filter_same.specs.declared.find.Claim.TheVariants.{Same, SameAsCaptured, NeverApart, Nothing}
use Rattle.filter_symbols.specs.Packets.{IsPacket, HasHeader, verdict_at}
use Rattle.filter_same.specs.Same.{IsCaptured, AreApart}

-- of each packet of which P holds, a node says No where another one did
pub record KeepsNo (P : Packet → Type 0) (old : List Node) (place : ℕ) (new : List Node) (cut : ℕ) : Type 0 where
  pub inside : cut < length new
  pub says : (p : Packet) → IsPacket p → P p → verdict_at old place p ≡ No → verdict_at new cut p ≡ No

-- P holds of each packet that has the header of a builder, unless node i says No of it
abbrev pub HoldsUnlessNo : Symbols → ℕ → (Packet → Type 0) → Type 0
HoldsUnlessNo b i P = (p : Packet) → IsPacket p → HasHeader b.header p → (verdict_at b.words.diagrams i p ≡ No → ⊥) → P p

-- two tests accept a packet, or neither does
abbrev pub AcceptsAlike : Test → Test → Packet → Type 0
AcceptsAlike t u p = is_yes (t p) ≡ is_yes (u p)

-- two tests do not say Yes and No of a packet
abbrev pub AreNotApart : Test → Test → Packet → Type 0
AreNotApart t u p = AreApart t u p → ⊥

-- what is claimed of two tests and a packet
abbrev pub ClaimOf : Test → Test → Claim → Packet → Type 0
ClaimOf t u Same p = AcceptsAlike t u p
ClaimOf t u SameAsCaptured p = IsCaptured p → AcceptsAlike t u p
ClaimOf t u NeverApart p = IsCaptured p → AreNotApart t u p
ClaimOf t u Nothing p = ⊤

-- what is claimed of each packet
abbrev pub Claims : Test → Test → Claim → Type 0
Claims t u claim = (p : Packet) → IsPacket p → ClaimOf t u claim p

-- what is claimed of those of a header length
abbrev pub ClaimsOf : Option ℕ → Test → Test → Claim → Type 0
ClaimsOf header t u claim = (p : Packet) → IsPacket p → HasHeader header p → ClaimOf t u claim p
