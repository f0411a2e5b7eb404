-- The run of a program, instruction by instruction.
use Rattle.std.specs.Prelude.{◌≡◌, ◌⊎◌, ℕ, List, Option, Some, None, map}
use Rattle.bpfvm.specs.declared.insn.Insn.{Insn}
use Rattle.bpfvm.specs.declared.tracing.Executed.{Executed}
use Rattle.bpfvm.specs.declared.tracing.Stored.{Stored}
use Rattle.bpfvm.specs.Machine.{beginning, verdict}
use Rattle.bpfvm.specs.Traces.{Runs}
use Rattle.bpfvm.specs.Validity.{IsValidProgram, IsRefusedAs}
use Rattle.bpftap_c.specs.declared.outcome.BpftapResult.{BpftapResult}
use Rattle.bpftap_c.specs.declared.outcome.Failure.{Failure}
use Rattle.bpftap_c.specs.declared.outcome.Failure.TheVariants.{NoMemory, Program}
use Rattle.bpftap_c.specs.declared.traces.BpftapExecuted.{BpftapExecuted}
use Rattle.bpftap_c.specs.declared.traces.BpftapTraced.{BpftapTraced}
use Rattle.bpftap_c.specs.Memory.{Puts}
use Rattle.bpftap_c.specs.Outcome.{failed}

-- the cell that was stored into, or 16; and what was stored, or 0
abbrev pub cell_of : Option Stored → ℕ
cell_of None = 16
cell_of (Some stored) = stored.cell

abbrev pub value_of : Option Stored → ℕ
value_of None = 0
value_of (Some stored) = stored.value

abbrev pub executed_of : Executed → BpftapExecuted
executed_of e = record { place = e.place; accumulator = e.accumulator; index = e.index; cell = cell_of e.stored; value = value_of e.stored }

-- the instructions are a program, this is its run on a packet, and the answer is the machine's verdict
abbrev pub IsRun : List Insn → List ℕ → ℕ → List Executed → ℕ → Type 0
IsRun insns packet wire run answer =
    IsValidProgram insns × Runs insns packet wire beginning run answer × (answer ≡ verdict insns packet wire)

-- why there is no run: the instructions are no program, or memory was refused
abbrev pub IsRunless : List Insn → Failure → Type 0
IsRunless insns (Program fault) = IsRefusedAs insns fault
IsRunless insns NoMemory = IsValidProgram insns
IsRunless insns other = ⊥

-- a result with an answer beside it
abbrev pub traced_of : BpftapResult → ℕ → BpftapTraced
traced_of told answer = record { fault = told.fault; answer = answer; size = told.size; place = told.place }

abbrev pub untraced : Failure → BpftapTraced
untraced failure = traced_of (failed failure) 0

-- The run is put, and the answer returned. Or there is none, and all is as it was.
abbrev pub PutsRun : List Insn → List ℕ → ℕ → List BpftapExecuted → List BpftapExecuted → BpftapTraced → Type 0
PutsRun insns packet wire old new told =
    ((run : List Executed) × (answer : ℕ) × (put : BpftapResult) × IsRun insns packet wire run answer × Puts (map executed_of run) old new put
    × (told ≡ traced_of put answer))
    ⊎ ((failure : Failure) × IsRunless insns failure × (told ≡ untraced failure) × (new ≡ old))
