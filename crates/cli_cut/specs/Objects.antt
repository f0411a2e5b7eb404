-- What `bpftap check --json` prints.
use Rattle.std.specs.Prelude.{ℕ, zero, suc, ◌+◌, ◌==◌, if◌then◌else◌, List, [], ◌++◌, Option, Some, None, codes}
use Rattle.std.specs.Io.KnownBytes.{Appends, Keeps}
use Rattle.std.specs.Fmt.{decimal}
use Rattle.bpfvm.specs.declared.insn.Insn.{Insn}
use Rattle.bpfvm.specs.Images.{brief_text}
use Rattle.bpfvm.specs.declared.code.TheConstants.{JA}
use Rattle.filterlang.specs.Texts.{ReadsAs}
use Rattle.filterlang.specs.Trees.{Tree}
use Rattle.filter_print.specs.Canonical.{canonical}
use Rattle.filtergen.specs.Expressions.{IsProgramOf, IsUncompiled}
use Rattle.line_text.specs.Strings.{json_string}
use Rattle.line_text.specs.Texts.{numbered}
use Rattle.cli_cut.specs.declared.print.PrintFault.{PrintFault}
use Rattle.cli_cut.specs.declared.print.PrintFault.TheVariants as print
use Rattle.cli_cut.specs.Printing.{IsUnprinted, given_back}

-- the name and the operand of an instruction at a place: a jump names the place that it leads to, as `check -d` prints it
abbrev pub named : ℕ → Insn → List ℕ
named place i = if i.code == JA then codes "ja " ++ decimal (place + 1 + i.k) else brief_text i

-- `{"place":P,"code":C,"jt":T,"jf":F,"k":K,"name":"ldh [12]"}`
unfoldable pub insn_json : ℕ → Insn → List ℕ
insn_json place i = codes "{\"place\":" ++ decimal place ++ codes ",\"code\":" ++ decimal i.code ++ codes ",\"jt\":" ++ decimal i.jt
    ++ codes ",\"jf\":" ++ decimal i.jf ++ codes ",\"k\":" ++ decimal i.k ++ codes ",\"name\":" ++ json_string (named place i) ++ codes "}"

-- with a comma before each but the first
abbrev pub element_json : ℕ → Insn → List ℕ
element_json zero i = insn_json zero i
element_json (suc place) i = codes "," ++ insn_json (suc place) i

-- an expression as it was read, as it is given back on a command line, if there is one
abbrev pub expression_json : Option Tree → List ℕ
expression_json None = codes "null"
expression_json (Some tree) = json_string (given_back (canonical tree))

-- `{"expression":"ip","instructions":[..]}`
unfoldable pub program_json : Option Tree → List Insn → List ℕ
program_json tree program = codes "{\"expression\":" ++ expression_json tree ++ codes ",\"instructions\":["
    ++ numbered element_json 0 program ++ codes "]}\n"

-- what is printed of an expression: the tree that it reads as, and its program with this snapshot length
abbrev pub PrintsObject : Option (List ℕ) → Option (List ℕ) → List ℕ → ℕ → Type 0
PrintsObject old new text snap =
    (tree : Tree) × (program : List Insn) × ReadsAs text tree × IsProgramOf text snap program × Appends old new (program_json (Some tree) program)

-- Why it is not: the expression has no program, and nothing was taken; or it has one, and its object is not printed.
abbrev pub IsObjectUnprinted : Option (List ℕ) → Option (List ℕ) → List ℕ → ℕ → PrintFault → Type 0
IsObjectUnprinted old new text snap (print.Expression fault) = IsUncompiled text snap fault × Keeps old new
IsObjectUnprinted old new text snap fault =
    (tree : Tree) × (program : List Insn) × ReadsAs text tree × IsProgramOf text snap program × IsUnprinted old new (program_json (Some tree) program) fault
