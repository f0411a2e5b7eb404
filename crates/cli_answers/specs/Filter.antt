-- The filter that packets are asked.
use Rattle.std.specs.Prelude.{◌≡◌, ℕ, List}
use Rattle.bpfvm.specs.declared.insn.Insn.{Insn}
use Rattle.filterlang.specs.Texts.{ReadsAs}
use Rattle.filterlang.specs.Trees.{tree_of}
use Rattle.cli_answers.specs.declared.filter.AskedFilter.{AskedFilter}
use Rattle.cli_answers.specs.declared.filter.AskedFilter.TheVariants.{Expression, Program}

-- a filter is the expression that a text reads as
abbrev pub IsOfExpression : List ℕ → AskedFilter → Type 0
IsOfExpression text (Expression expr) = ReadsAs text (tree_of expr)
IsOfExpression text (Program program) = ⊥

-- a filter is this program
abbrev pub IsOfProgram : List Insn → AskedFilter → Type 0
IsOfProgram program (Expression expr) = ⊥
IsOfProgram program (Program boxed) = boxed.value ≡ program
