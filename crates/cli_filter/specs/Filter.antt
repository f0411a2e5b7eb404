-- The filter that a command is given.
use Rattle.std.specs.Prelude.{◌≡◌, ℕ, List, [], Option, Some, None}
use Rattle.bpfvm.specs.declared.insn.Insn.{Insn}
use Rattle.bpf_asm.specs.declared.notation.ProgramTextFault.TheVariants as text_faults
use Rattle.bpf_asm.specs.Notation.{IsProgramText, IsNoProgramText}
use Rattle.filtergen.specs.Expressions.{IsProgramOf, IsUncompiled}
use Rattle.savefile.specs.Snapshot.{effective_snaplen}
use Rattle.cli_filter.specs.declared.program.FilterFault.{FilterFault}
use Rattle.cli_filter.specs.declared.program.FilterFault.TheVariants.{Twice, Listing, Assembly, Expression}

-- without an expression the empty one is meant
abbrev pub expression_of : Option (List ℕ) → List ℕ
expression_of None = []
expression_of (Some text) = text

-- the program that a listing, assembly or an image is, or that stands for an expression; never both
abbrev pub IsFilter : Option (List ℕ) → Option (List ℕ) → ℕ → List Insn → Type 0
IsFilter (Some listing) (Some expr) snap program = ⊥
IsFilter (Some listing) None snap program = IsProgramText listing program
IsFilter None expr snap program = IsProgramOf (expression_of expr) (effective_snaplen snap) program

-- Why a command has no filter: two are given; the text is no valid program in its notation; the expression has no program.
abbrev pub IsNoFilter : Option (List ℕ) → Option (List ℕ) → ℕ → FilterFault → Type 0
IsNoFilter (Some listing) (Some expr) snap fault = fault ≡ Twice
IsNoFilter (Some listing) None snap (Listing fault) = IsNoProgramText listing (text_faults.Listing fault)
IsNoFilter (Some listing) None snap (Assembly fault) = IsNoProgramText listing (text_faults.Assembly fault)
IsNoFilter None expr snap (Expression fault) = IsUncompiled (expression_of expr) (effective_snaplen snap) fault
IsNoFilter listing expr snap fault = ⊥
