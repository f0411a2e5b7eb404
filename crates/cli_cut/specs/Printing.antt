-- What `bpftap check` prints.
use Rattle.std.specs.Prelude.{ℕ, Bool, false, List, [], ◌∷◌, ◌++◌, ◌==◌, if◌then◌else◌, Option}
use Rattle.std.specs.Io.KnownBytes.{Appends, Keeps}
use Rattle.bpfvm.specs.declared.insn.Insn.{Insn}
use Rattle.bpfvm.specs.Listing.{listing_of}
use Rattle.bpfvm.specs.Images.{image_of}
use Rattle.bpf_asm.specs.Arrays.{array_of}
use Rattle.savefile.specs.declared.record.TheConstants.{MAX_SNAP}
use Rattle.filterlang.specs.Texts.{ReadsAs, IsRefusalOf}
use Rattle.filterlang.specs.Trees.{Tree}
use Rattle.filter_print.specs.Canonical.{canonical}
use Rattle.filtergen.specs.declared.expression.ExpressionFault.TheVariants as faults
use Rattle.filtergen.specs.Expressions.{IsProgramOf, IsUncompiled}
use Rattle.line_text.specs.Sending.{TakesPart}
use Rattle.line_text.specs.Texts.{end_of_line}
use Rattle.cli_cut.specs.declared.print.ProgramForm.{ProgramForm}
use Rattle.cli_cut.specs.declared.print.ProgramForm.TheVariants as forms
use Rattle.cli_cut.specs.declared.print.PrintFault.{PrintFault}
use Rattle.cli_cut.specs.declared.print.PrintFault.TheVariants as print

-- what is printed of an expression: the listing of its program at the largest snapshot length
abbrev pub Prints : Option (List ℕ) → Option (List ℕ) → List ℕ → Type 0
Prints old new text = (program : List Insn) × IsProgramOf text MAX_SNAP program × Appends old new (listing_of program)

-- whether a text begins with `-`
abbrev pub begins_with_minus : List ℕ → Bool
begins_with_minus [] = false
begins_with_minus (byte ∷ bytes) = byte == 45

-- how a text is given back on a command line: one that begins with `-` in parentheses
abbrev pub given_back : List ℕ → List ℕ
given_back text = if begins_with_minus text then 40 ∷ text ++ 41 ∷ [] else text

-- what is printed of an expression as it was read: the canonical text of the tree that it reads as, as it is given back, on a line
abbrev pub PrintsRead : Option (List ℕ) → Option (List ℕ) → List ℕ → Type 0
PrintsRead old new text = (tree : Tree) × ReadsAs text tree × Appends old new (given_back (canonical tree) ++ end_of_line)

-- Why an expression is not printed so: it reads as no tree, and nothing was taken; or it reads as one, but memory for its text
-- was wanting, or the writer failed, which took a beginning of it.
abbrev pub IsUnread : Option (List ℕ) → Option (List ℕ) → List ℕ → PrintFault → Type 0
IsUnread old new text (print.Expression (faults.Text fault)) = IsRefusalOf text fault × Keeps old new
IsUnread old new text (print.Expression (faults.Tree refusal)) = ⊥
IsUnread old new text print.NoMemory = (tree : Tree) × ReadsAs text tree × Keeps old new
IsUnread old new text (print.Output error) = (tree : Tree) × ReadsAs text tree × TakesPart old new (given_back (canonical tree) ++ end_of_line)

-- a program as numbers, by the names of its instructions, or as an array of C
abbrev pub program_text : ProgramForm → List Insn → List ℕ
program_text forms.Listing program = listing_of program
program_text forms.Image program = image_of program
program_text forms.Array program = array_of program

-- Why a text is not printed: memory for it was wanting, and nothing was taken; or the writer failed, which took a beginning of it.
abbrev pub IsUnprinted : Option (List ℕ) → Option (List ℕ) → List ℕ → PrintFault → Type 0
IsUnprinted old new text (print.Expression fault) = ⊥
IsUnprinted old new text print.NoMemory = Keeps old new
IsUnprinted old new text (print.Output error) = TakesPart old new text

-- why a program is not printed
abbrev pub IsUnshown : Option (List ℕ) → Option (List ℕ) → ProgramForm → List Insn → PrintFault → Type 0
IsUnshown old new form program fault = IsUnprinted old new (program_text form program) fault

-- Why the listing of an expression's program is not printed: the expression has none, and nothing was taken; or it has one, which
-- is not printed.
abbrev pub IsUnchecked : Option (List ℕ) → Option (List ℕ) → List ℕ → PrintFault → Type 0
IsUnchecked old new text (print.Expression fault) = IsUncompiled text MAX_SNAP fault × Keeps old new
IsUnchecked old new text fault = (program : List Insn) × IsProgramOf text MAX_SNAP program × IsUnshown old new forms.Listing program fault

-- the writer failed, and took a beginning of a text
abbrev pub IsPart : Option (List ℕ) → Option (List ℕ) → List ℕ → PrintFault → Type 0
IsPart old new text (print.Output error) = TakesPart old new text
IsPart old new text fault = ⊥
