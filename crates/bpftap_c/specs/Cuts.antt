-- A capture in memory, cut.
use Rattle.std.specs.Prelude.{◌≡◌, ◌⊎◌, ◌==◌, ℕ, Bool, true, false, List, Option, if◌then◌else◌}
use Rattle.savefile.specs.declared.fault.Fault.{Fault}
use Rattle.savefile.specs.declared.fault.Fault.TheVariants.{TornRecord, BadFraction, TooLong}
use Rattle.savefile.specs.declared.header.Order.{Order}
use Rattle.savefile.specs.declared.header.Unit.{Unit as TimeUnit}
use Rattle.savefile.specs.declared.packet.Packet.{Packet}
use Rattle.savefile.specs.Savefile.{IsCapture, IsHeader, RefusesHeader}
use Rattle.bpfvm.specs.declared.insn.Insn.{Insn}
use Rattle.bpfvm.specs.declared.fault.Invalid.{Invalid}
use Rattle.bpfvm.specs.Validity.{IsValidProgram, IsRefusedAs}
use Rattle.pcap_cut.specs.declared.cut.End.{End}
use Rattle.pcap_cut.specs.declared.cut.End.TheVariants.{Clean, Input, Output}
use Rattle.pcap_cut.specs.Cut.{cut_text}
use Rattle.pcap_cut.specs.Outcome.{end_behind}
use Rattle.bpftap_c.specs.declared.outcome.BpftapResult.{BpftapResult}
use Rattle.bpftap_c.specs.declared.outcome.Failure.TheVariants.{NoMemory, Program, Capture}
use Rattle.bpftap_c.specs.Memory.{Puts}
use Rattle.bpftap_c.specs.Outcome.{capture_code, capture_place, failed}

-- a result, with the fault that ended the capture, where all found room
abbrev pub ended : BpftapResult → End → BpftapResult
ended told (Input fault) =
    if told.fault == 0 then record { fault = capture_code fault; size = told.size; place = capture_place fault } else told
ended told Clean = told
ended told (Output fault) = told

-- a capture's packets, up to its end or its first torn or bad record, as a program cuts them; in the same byte order and unit of time
pub record IsCut (capture : List ℕ) (program : List Insn) (snap : ℕ) (text : List ℕ) (fault : Option Fault) : Type 0 where
  pub packets : List Packet
  pub reads : IsCapture capture packets fault
  pub order : Order
  pub unit : TimeUnit
  pub header_snap : ℕ
  pub header : IsHeader order capture unit header_snap
  pub whole : text ≡ cut_text program snap order unit packets

-- the ends at which all that a capture holds was written
abbrev pub is_whole : End → Bool
is_whole Clean = true
is_whole (Input (TornRecord place)) = true
is_whole (Input (BadFraction place)) = true
is_whole (Input (TooLong place)) = true
is_whole (Input other) = false
is_whole (Output fault) = false

-- the capture's header is one
abbrev pub HasHeader : List ℕ → Type 0
HasHeader capture = (order : Order) × (unit : TimeUnit) × (snap : ℕ) × IsHeader order capture unit snap

-- What is cut is put, and the fault that ended the capture is returned beside its size. Or all is as it was: the instructions are no
-- program, the capture's header is refused, or memory was.
abbrev pub Cuts : List ℕ → List Insn → ℕ → List ℕ → List ℕ → BpftapResult → Type 0
Cuts capture insns snap old new told =
    (IsValidProgram insns × (text : List ℕ) × (fault : Option Fault) × (put : BpftapResult) × IsCut capture insns snap text fault
    × Puts text old new put × (told ≡ ended put (end_behind fault)))
    ⊎ ((fault : Invalid) × IsRefusedAs insns fault × (told ≡ failed (Program fault)) × (new ≡ old))
    ⊎ ((fault : Fault) × IsValidProgram insns × RefusesHeader capture fault × (told ≡ failed (Capture fault)) × (new ≡ old))
    ⊎ (IsValidProgram insns × HasHeader capture × (told ≡ failed NoMemory) × (new ≡ old))
