-- The bits of packets, and what the nodes of decision diagrams say of packets.
use Rattle.std.specs.Prelude.{◌≡◌, ⊤, ℕ, ◌-◌, ◌/◌, ◌%◌, ◌^◌, ◌<◌, Bool, List, length, Option, Some, None, nat_lt, nat_le, bit_and, slice_index, if◌then◌else◌}
use Rattle.filter_meaning.specs.declared.verdict.Verdict.{Verdict}
use Rattle.filter_meaning.specs.declared.verdict.Verdict.TheVariants.{Abort}
use Rattle.filter_meaning.specs.Meaning.{Packet, HasBytes, decided, byte}
use Rattle.filter_bdd.specs.declared.answer.Answer.{Answer}
use Rattle.filter_bdd.specs.declared.answer.Answer.TheVariants.{Final, Never}
use Rattle.filter_bdd.specs.declared.table.Node.{Node}
use Rattle.filter_bdd.specs.Diagrams.{answer}
use Rattle.filter_bdd.specs.Fields.{is_set}

-- The bits of a packet by their names: 0 to 31 are those of its length on the wire, the highest first; bit 32 is the highest of the first
-- captured byte. A byte past the captured ones has no bit set.
abbrev pub bit_of : Packet → ℕ → Bool
bit_of p name =
    if nat_lt name 32 then is_set p.wire (31 - name) else is_set (slice_index p.captured ((name - 32) / 8)) (7 - (name - 32) % 8)

-- the verdict that an answer is where `captured` bytes were captured
abbrev pub verdict_of : ℕ → Answer → Verdict
verdict_of captured Never = Abort
verdict_of captured (Final need says) = if nat_le need captured then decided says else Abort

-- what a node says of a packet
abbrev pub verdict_at : List Node → ℕ → Packet → Verdict
verdict_at nodes i p = verdict_of (length p.captured) (answer nodes (bit_of p) i)

-- a packet that can be: bytes, and a length on the wire of 32 bits
pub record IsPacket (p : Packet) : Type 0 where
  pub bytes : HasBytes p
  pub wire : p.wire < 2 ^ 32

-- the low four bits of the first byte of the IPv4 header, if it was captured
abbrev pub HasHeader : Option ℕ → Packet → Type 0
HasHeader None p = ⊤
HasHeader (Some n) p = (b : ℕ) → byte 14 p ≡ Some b → bit_and b 15 ≡ n
