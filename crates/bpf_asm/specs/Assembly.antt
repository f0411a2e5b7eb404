-- Assembly: the instructions of lines, whose jumps lead to labels and places, and what is wrong with the first line that is faulty.
use Rattle.std.specs.Prelude.{ℕ, ◌+◌, ◌-◌, ◌==◌, Bool, true, false, nat_lt, nat_le, if◌then◌else◌, List, [], ◌∷◌, length, take, drop, Option, Some, None, Result, Ok, Err, is_some, option_map}
use Rattle.std.specs.List.{list_any, slice_split}
use Rattle.std.specs.Str.{bytes_eq}
use Rattle.bpf_asm.specs.Types.{Insn, Label, Cause, LabelTwice, BadPlace, NoLabel, JumpBack, JumpTooFar, AssemblyFault, Target, Instruction, Line}
use Rattle.bpf_asm.specs.Types.faults
use Rattle.bpf_asm.specs.Types.targets
use Rattle.bpf_asm.specs.Types.instructions
use Rattle.bpf_asm.specs.Tokens.{onto}
use Rattle.bpf_asm.specs.Lines.{bind, line_of}

-- ---- How far a jump leads

abbrev pub is_label : Label → Option Label → Bool
is_label label (Some own) = bytes_eq own.bytes label.bytes
is_label label None = false

abbrev pub has_label : Label → Line → Bool
has_label label line = is_label label line.label

abbrev pub is_defined : Label → List Line → Bool
is_defined label lines = list_any (has_label label) lines

-- how many instructions a line has
abbrev pub passed_by : Line → ℕ
passed_by line = if is_some line.instruction then 1 else 0

-- how many instructions stand before the first line that has this label
abbrev pub ahead : Label → List Line → Option ℕ
ahead label [] = None
ahead label (line ∷ lines) = if has_label label line then Some 0 else option_map (λ n. passed_by line + n) (ahead label lines)

-- A jump passes the instructions between it and its label, which is ahead of it. So far are the lines up to its own.
abbrev pub distance_or : Option ℕ → Bool → Result ℕ Cause
distance_or (Some n) behind = Ok n
distance_or None true = Err JumpBack
distance_or None false = Err NoLabel

abbrev pub label_distance : Label → (so_far rest : List Line) → Result ℕ Cause
label_distance label so_far rest = distance_or (ahead label rest) (is_defined label so_far)

abbrev pub place_distance : (target place : ℕ) → Result ℕ Cause
place_distance target place = if nat_lt place target then Ok (target - place - 1) else Err JumpBack

abbrev pub distance : Target → (place : ℕ) → (so_far rest : List Line) → Result ℕ Cause
distance targets.Next place so_far rest = Ok 0
distance (targets.Label label) place so_far rest = label_distance label so_far rest
distance (targets.Place target) place so_far rest = place_distance target place

-- ---- Instructions

abbrev pub short : ℕ → Result ℕ Cause
short n = if nat_le n 255 then Ok n else Err JumpTooFar

abbrev pub long : ℕ → Result ℕ Cause
long n = if nat_le n 4294967295 then Ok n else Err JumpTooFar

abbrev pub short_distance : Target → (place : ℕ) → (so_far rest : List Line) → Result ℕ Cause
short_distance target place so_far rest = bind (distance target place so_far rest) short

abbrev pub jump_insn : Target → (place : ℕ) → (so_far rest : List Line) → Result Insn Cause
jump_insn target place so_far rest =
    bind (distance target place so_far rest) (λ n. bind (long n) (λ k. Ok (record { code = 0x05; jt = 0; jf = 0; k = k })))

abbrev pub insn_of : Instruction → (place : ℕ) → (so_far rest : List Line) → Result Insn Cause
insn_of (instructions.Plain code k) place so_far rest = Ok (record { code = code; jt = 0; jf = 0; k = k })
insn_of (instructions.Jump target) place so_far rest = jump_insn target place so_far rest
insn_of (instructions.Branch code k first second) place so_far rest =
    bind (short_distance first place so_far rest) (λ jt.
    bind (short_distance second place so_far rest) (λ jf.
    Ok (record { code = code; jt = jt; jf = jf; k = k })))

-- ---- Lines

abbrev pub repeats : Option Label → List Line → Bool
repeats (Some label) before = is_defined label before
repeats None before = false

-- an earlier line has the label of this one
abbrev pub is_repeated : Line → (before : List Line) → Bool
is_repeated line before = repeats line.label before

abbrev pub is_place : Option ℕ → ℕ → Bool
is_place (Some own) place = own == place
is_place None place = true

-- the place that is written in front of a line is its own
abbrev pub is_placed : Line → (place : ℕ) → Bool
is_placed line place = is_place line.place place

abbrev pub insn_or : Option Instruction → (place : ℕ) → (so_far rest : List Line) → Result (Option Insn) Cause
insn_or None place so_far rest = Ok None
insn_or (Some instruction) place so_far rest = bind (insn_of instruction place so_far rest) (λ insn. Ok (Some insn))

-- the instruction of a line, if it has one, or what is wrong with it
abbrev pub line_insn : Line → (place : ℕ) → (before so_far rest : List Line) → Result (Option Insn) Cause
line_insn line place before so_far rest =
    if is_repeated line before then Err LabelTwice
    else (if is_placed line place then insn_or line.instruction place so_far rest else Err BadPlace)

-- what a cause is at a line
abbrev pub at_line : {A : Type 0} → (number : ℕ) → Result A Cause → Result A AssemblyFault
at_line number (Ok x) = Ok x
at_line number (Err cause) = Err (faults.Line number cause)

-- an instruction before others, if there is one
abbrev pub before_others : Option Insn → Result (List Insn) AssemblyFault → Result (List Insn) AssemblyFault
before_others None insns = insns
before_others (Some insn) insns = onto insn insns

abbrev pub next_place : Option Insn → ℕ → ℕ
next_place None place = place
next_place (Some insn) place = place + 1

-- The instructions of what is left of all lines, past n of them, where the next instruction has this place; or the first fault.
abbrev pub insns_from : (all : List Line) → (n place : ℕ) → List Line → Result (List Insn) AssemblyFault
insns_from all n place [] = Ok []
insns_from all n place (line ∷ lines) =
    bind (at_line (n + 1) (line_insn line place (take n all) (take (n + 1) all) (drop (n + 1) all))) (λ found.
    before_others found (insns_from all (n + 1) (next_place found place) lines))

-- ---- Texts

abbrev pub is_line_feed : ℕ → Bool
is_line_feed byte = byte == 10

-- what the lines say, of which the first has this number; or the first fault
abbrev pub lines_from : (number : ℕ) → List (List ℕ) → Result (List Line) AssemblyFault
lines_from number [] = Ok []
lines_from number (text ∷ texts) = bind (at_line number (line_of text)) (λ line. onto line (lines_from (number + 1) texts))

-- the instructions that a text is assembly of, or why it is none: it has at most 65,536 bytes
unfoldable pub assembled : List ℕ → Result (List Insn) AssemblyFault
assembled text =
    if nat_le (length text) 65536
    then bind (lines_from 1 (slice_split is_line_feed text)) (λ lines. insns_from lines 0 0 lines)
    else Err faults.TextTooLong
