-- The program of a text.
use Rattle.std.specs.Prelude.{ℕ, List}
use Rattle.bpfvm.specs.declared.insn.Insn.{Insn}
use Rattle.bpfvm.specs.Validity.{IsValidProgram}
use Rattle.filterlang.specs.Texts.{ReadsAs, IsRefusalOf}
use Rattle.filter_tree.specs.Trees.{Tree}
use Rattle.filtergen_code.specs.Compiling.{StandsFor, IsRefused}
use Rattle.filtergen.specs.declared.expression.ExpressionFault.{ExpressionFault}
use Rattle.filtergen.specs.declared.expression.ExpressionFault.TheVariants as faults

-- the program is valid, and answers snap exactly where the expression that the text reads as accepts a packet, and else 0
abbrev pub IsProgramOf : List ℕ → ℕ → List Insn → Type 0
IsProgramOf text snap program = IsValidProgram program × (tree : Tree) × ReadsAs text tree × StandsFor program tree snap

-- Why a text has no program: it is no expression, or memory was wanting; else its tree is refused.
abbrev pub IsUncompiled : List ℕ → ℕ → ExpressionFault → Type 0
IsUncompiled text snap (faults.Text fault) = IsRefusalOf text fault
IsUncompiled text snap (faults.Tree refusal) = (tree : Tree) × ReadsAs text tree × IsRefused tree snap refusal
