-- What programs say of packets, as tests do.
use Rattle.std.specs.Prelude.{◌≡◌, ℕ, zero, suc, List, [], ◌∷◌, Bool, nat_lt, if◌then◌else◌}
use Rattle.bpfvm.specs.declared.insn.Insn.{Insn}
use Rattle.bpfvm.specs.Codes.{operation_of}
use Rattle.bpfvm.specs.Machine.{Registers, Goes, Ends, initial, effect, verdict}
use Rattle.bpfvm.specs.Validity.{is_return_code}
use Rattle.filter_meaning.specs.declared.verdict.Verdict.{Verdict}
use Rattle.filter_meaning.specs.declared.verdict.Verdict.TheVariants.{Abort}
use Rattle.filter_meaning.specs.Meaning.{Packet, Test, decided, is_yes}

-- The verdict of a run that an instruction ends: a return says Yes if it keeps any bytes, else No. Another instruction ends a run only where
-- it has no value: its bytes are past the captured ones, or it divides by 0.
abbrev pub ended : Insn → ℕ → Verdict
ended i n = if is_return_code (operation_of i.code) then decided (nat_lt 0 n) else Abort

-- the verdict of the run that goes on past this many of these instructions, with these registers
unfoldable pub run_test : List Insn → (passed : ℕ) → Registers → Test
run_test [] passed r p = Abort
run_test (i ∷ others) (suc passed) r p = run_test others passed r p
run_test (i ∷ others) zero r p = elim (effect p.captured p.wire i r) [ Goes passed r' ↦ run_test others passed r' p | Ends n ↦ ended i n ]

-- what a program says of a packet
abbrev pub program_test : List Insn → Test
program_test insns = run_test insns 0 initial

-- a program keeps bytes of a packet
abbrev pub keeps : List Insn → Packet → Bool
keeps insns p = nat_lt 0 (verdict insns p.captured p.wire)

-- a program says Yes of the packets of which it keeps bytes
abbrev pub ProgramsSayYes : Type 0
ProgramsSayYes = (insns : List Insn) (p : Packet) → is_yes (program_test insns p) ≡ keeps insns p
