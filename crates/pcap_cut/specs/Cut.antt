-- What `bpftap cut` writes of the packets of a capture.
use Rattle.std.specs.Prelude.{ℕ, Bool, List, take, min, map, filter, nat_lt}
use Rattle.savefile.specs.declared.header.Order.{Order}
use Rattle.savefile.specs.declared.header.Unit.{Unit as TimeUnit}
use Rattle.savefile.specs.declared.packet.Packet.{Packet}
use Rattle.savefile.specs.Savefile.{encoded}
use Rattle.bpfvm.specs.declared.insn.Insn.{Insn}
use Rattle.bpfvm.specs.Machine.{verdict}
use Rattle.savefile.specs.Snapshot.{effective_snaplen}

-- the program's answer to a packet
abbrev pub answer : List Insn → Packet → ℕ
answer program p = verdict program p.bytes p.len

-- a program accepts a packet where its answer is not 0
abbrev pub accepts : List Insn → Packet → Bool
accepts program p = nat_lt 0 (answer program p)

-- a packet with only its first bytes, at most n; its time and its original length stay
abbrev pub cut_packet : ℕ → Packet → Packet
cut_packet n p = record p { bytes = take n p.bytes }

-- the packets that a program accepts, each cut to the lesser of the program's answer and the snapshot length
unfoldable pub accepted : List Insn → ℕ → List Packet → List Packet
accepted program snap packets =
    map (λ p. cut_packet (min (answer program p) snap) p) (filter (accepts program) packets)

-- the capture that is written of these packets
unfoldable pub cut_text : List Insn → ℕ → Order → TimeUnit → List Packet → List ℕ
cut_text program snap order unit packets =
    encoded order unit (effective_snaplen snap) (accepted program (effective_snaplen snap) packets)
