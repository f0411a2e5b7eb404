-- What is printed of a packet and of a filter's answer to it.
use Rattle.std.specs.Prelude.{ℕ, List, ◌++◌, length, codes}
use Rattle.std.specs.Fmt.{decimal}
use Rattle.savefile.specs.declared.packet.Packet.{Packet}
use Rattle.bpfvm.specs.declared.insn.Insn.{Insn}
use Rattle.bpfvm.specs.Images.{brief_text}
use Rattle.line_text.specs.Time.{nine_digits}

-- `place P time S.NNNNNNNNN`
unfoldable pub time_text : ℕ → Packet → List ℕ
time_text place p = codes "place " ++ decimal place ++ codes " time " ++ decimal p.sec ++ codes "." ++ nine_digits p.nanos

-- ` len W captured C `
unfoldable pub lengths_text : Packet → List ℕ
lengths_text p = codes " len " ++ decimal p.len ++ codes " captured " ++ decimal (length p.bytes) ++ codes " "

-- `place P time S.NNNNNNNNN len W captured C `
abbrev pub packet_text : ℕ → Packet → List ℕ
packet_text place p = time_text place p ++ lengths_text p

-- the number that a program answers, the place of the instruction where its run ended, and that instruction
unfoldable pub end_text : (number place : ℕ) → Insn → List ℕ
end_text number place insn = decimal number ++ codes " at " ++ decimal place ++ codes ": " ++ brief_text insn
