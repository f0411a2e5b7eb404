-- The steps inside a cut.
use Rattle.std.specs.Prelude.{◌≡◌, ℕ, ◌-◌, ◌^◌, ◌≤◌, List, length, Option, Some, None, Result, ◌⊎◌}
use Rattle.savefile.specs.declared.fault.Fault.{Fault}
use Rattle.savefile.specs.declared.fault.Fault.TheVariants.{Device, CountFull}
use Rattle.savefile.specs.declared.header.Header.{Header}
use Rattle.savefile.specs.declared.header.Order.{Order}
use Rattle.savefile.specs.declared.header.Unit.{Unit as TimeUnit}
use Rattle.savefile.specs.declared.packet.Packet.{Packet}
use Rattle.savefile.specs.declared.reader.Reader.{Reader}
use Rattle.savefile.specs.declared.writing.Writer.{Writer}
use Rattle.savefile.specs.Reader.{HasGiven, WasBegun, WasRead, WasTaken}
use Rattle.savefile.specs.Savefile.{encoded}
use Rattle.savefile.specs.Writer.{HasWritten, IsBeginning, Sent}
use Rattle.bpfvm.specs.declared.insn.Insn.{Insn}
use Rattle.pcap_cut.specs.declared.cut.End.{End}
use Rattle.pcap_cut.specs.declared.cut.End.TheVariants.{Clean, Input, Output}
use Rattle.pcap_cut.specs.declared.cut.Tally.{Tally}
use Rattle.pcap_cut.specs.Cut.{accepted}
use Rattle.pcap_cut.specs.Outcome.{IsTally}

-- A writer came to this answer while it wrote the text of these packets: all of it, or a beginning of it where the sink
-- broke or the text has more bytes than can be counted.
abbrev pub Wrote : {W : Type 0} → (W → Option (List ℕ)) → Option (List ℕ) → Order → TimeUnit → ℕ → List Packet → Result (Unit {0}) Fault → Writer W → Type 0
Wrote taken start order unit snap packets (Result.Ok x) writer = HasWritten taken start order unit snap packets writer
Wrote taken start order unit snap packets (Result.Err fault) writer =
    (sent : List ℕ) × Sent taken start sent writer × IsBeginning sent (encoded order unit snap packets)
    × ((fault ≡ Device) ⊎ ((fault ≡ CountFull) × (2 ^ 64 ≤ length (encoded order unit snap packets))))

-- The accepted packets of those that a reader gave were written, cut, and all were counted.
abbrev pub Copies : {R W : Type 0} → (R → Option (List ℕ)) → (W → Option (List ℕ)) → Option (List ℕ) → Header → Option (List ℕ) → Order → TimeUnit → ℕ → List Insn → ℕ → Tally → Reader R → Writer W → Type 0
Copies left taken from header to order unit head program snap tally reader writer =
    (packets : List Packet) × HasGiven left from header packets reader × HasWritten taken to order unit head (accepted program snap packets) writer
    × IsTally program packets tally

-- and so copying came to this end, with `left` left in the source
abbrev pub Copied : {W : Type 0} → (W → Option (List ℕ)) → Option (List ℕ) → Option (List ℕ) → Header → Option (List ℕ) → Order → TimeUnit → ℕ → List Insn → ℕ → Tally → End → Writer W → Type 0
Copied taken from left header to order unit head program snap tally Clean writer =
    (packets : List Packet) × WasRead from header packets None × HasWritten taken to order unit head (accepted program snap packets) writer
    × IsTally program packets tally
Copied taken from left header to order unit head program snap tally (Input fault) writer =
    (packets : List Packet) × HasWritten taken to order unit head (accepted program snap packets) writer
    × IsTally program packets tally × (WasRead from header packets (Some fault)
    ⊎ (WasBegun from header packets
    × (((fault ≡ Device) × WasTaken from left header packets) ⊎ ((fault ≡ CountFull) × (length packets ≡ 2 ^ 64 - 1)))))
Copied taken from left header to order unit head program snap tally (Output fault) writer =
    (packets : List Packet) × WasBegun from header packets
    × Wrote taken to order unit head (accepted program snap packets) (Result.Err fault) writer
