-- What an expression looks at of a packet.
use Rattle.std.specs.Prelude.{◌≡◌, ℕ, false, List, map, Result, Ok, Err}
use Rattle.std.specs.List.{flat_map}
use Rattle.filter_tree.specs.Trees.{Tree}
use Rattle.filter_explain.specs.Asking.{questions}
use Rattle.filter_meaning.specs.declared.frame.Look.{Look}
use Rattle.filter_meaning.specs.declared.frame.Look.TheVariants.{Bytes, Length}
use Rattle.filter_meaning.specs.Looks.{looks}
use Rattle.filter_meaning.specs.Meaning.{Packet, packet_of}
use Rattle.bpftap_c.specs.declared.looks.BpftapLook.{BpftapLook}
use Rattle.bpftap_c.specs.declared.outcome.Failure.{Failure}
use Rattle.bpftap_c.specs.Texts.{IsRead, IsUnread}

-- bytes of the frame; or the length on the wire, which is no byte of it
abbrev pub look_of : Look → BpftapLook
look_of (Bytes offset size) = record { offset = offset; size = size }
look_of Length = record { offset = 0; size = 0 }

-- what each primitive or relation looks at that the packet is asked, from left to right
abbrev pub looked : Tree → Packet → List Look
looked t p = flat_map (λ q. looks q.part p) (questions false t p)

-- what the expression looks at, or why it is not one
abbrev pub IsLooked : List ℕ → List ℕ → ℕ → Result (List BpftapLook) Failure → Type 0
IsLooked text packet wire (Ok found) = (tree : Tree) × IsRead text tree × (found ≡ map look_of (looked tree (packet_of packet wire)))
IsLooked text packet wire (Err failure) = IsUnread text failure
