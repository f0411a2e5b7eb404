-- The text of a fault of lines.
use Rattle.std.specs.Prelude.{ℕ, List, ◌++◌, Option, Some, None, codes}
use Rattle.std.specs.Fmt.{decimal}
use Rattle.line_text.specs.declared.fault.LineFault.{LineFault}
use Rattle.line_text.specs.declared.fault.LineFault.TheVariants.{Listeners, Script, NoMemory}

abbrev pub line_fault_name : LineFault → List ℕ
line_fault_name (Listeners n) = codes "Listeners"
line_fault_name (Script n) = codes "Script"
line_fault_name NoMemory = codes "NoMemory"

-- the line that is not taken, from 1
abbrev pub fault_line : LineFault → Option ℕ
fault_line (Listeners n) = Some n
fault_line (Script n) = Some n
fault_line NoMemory = None

-- a fault of lines reads as its name, and after a blank its line, if it has one
abbrev pub name_and_line : List ℕ → Option ℕ → List ℕ
name_and_line name (Some n) = name ++ codes " " ++ decimal n
name_and_line name None = name

abbrev pub line_fault_text : LineFault → List ℕ
line_fault_text fault = name_and_line (line_fault_name fault) (fault_line fault)
