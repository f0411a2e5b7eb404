-- Many packets in one call.
use Rattle.std.specs.Prelude.{◌≡◌, ◌⊎◌, ℕ, List, [], ◌∷◌, take, drop}
use Rattle.bpfvm.specs.declared.insn.Insn.{Insn}
use Rattle.bpfvm.specs.declared.fault.Invalid.{Invalid}
use Rattle.bpfvm.specs.Machine.{verdict}
use Rattle.bpfvm.specs.Validity.{IsValidProgram, IsRefusedAs}
use Rattle.bpftap_c.specs.declared.batches.BpftapPacket.{BpftapPacket}
use Rattle.bpftap_c.specs.declared.batches.BpftapSpan.{BpftapSpan}
use Rattle.bpftap_c.specs.declared.outcome.BpftapResult.{BpftapResult}
use Rattle.bpftap_c.specs.declared.outcome.Failure.TheVariants.{Program}
use Rattle.bpftap_c.specs.Memory.{Puts}
use Rattle.bpftap_c.specs.Outcome.{failed}

-- what a program answers to a packet
abbrev pub answer_to : List Insn → BpftapPacket → ℕ
answer_to program packet = verdict program packet.bytes.now packet.wire

-- the bytes of a packet that lies in a memory
abbrev pub packet_in : List ℕ → BpftapSpan → List ℕ
packet_in memory span = take span.captured (drop span.offset memory)

abbrev pub answer_in : List Insn → List ℕ → BpftapSpan → ℕ
answer_in program memory span = verdict program (packet_in memory span) span.wire

-- what a program answers to packets that lie in a memory one after the other, each with this many bytes
abbrev pub answers_joined : List Insn → List ℕ → List ℕ → List ℕ
answers_joined program memory [] = []
answers_joined program memory (size ∷ sizes) = verdict program (take size memory) size ∷ answers_joined program (drop size memory) sizes

-- these answers of a program are put; or it is none, and all is as it was
abbrev pub Answers : List Insn → List ℕ → List ℕ → List ℕ → BpftapResult → Type 0
Answers insns answers old new told =
    (IsValidProgram insns × Puts answers old new told)
    ⊎ ((fault : Invalid) × IsRefusedAs insns fault × (told ≡ failed (Program fault)) × (new ≡ old))
