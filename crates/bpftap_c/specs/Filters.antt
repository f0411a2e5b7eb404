-- What is made of the text of an expression.
use Rattle.std.specs.Prelude.{◌≡◌, ◌<◌, ◌≤◌, ◌↔◌, ℕ, List, length, Result, Ok, Err, IsUtf8}
use Rattle.std.specs.Str.Lossy.{utf8_valid_len}
use Rattle.bpfvm.specs.declared.insn.Insn.{Insn}
use Rattle.filterlang.specs.Texts.{ReadsAs}
use Rattle.filterlang.specs.declared.fault.Fault.TheVariants as misread
use Rattle.filter_tree.specs.Trees.{Tree}
use Rattle.filtergen_facts.specs.Weights.{need}
use Rattle.filtergen_code.specs.Compiling.{Fits, IsBadSnap}
use Rattle.filtergen.specs.Expressions.{IsProgramOf, IsUncompiled}
use Rattle.filtergen.specs.declared.expression.ExpressionFault.TheVariants as expression
use Rattle.filtergen_trim.specs.Reaching.{IsAllReached}
use Rattle.bpftap_c.specs.declared.outcome.Failure.{Failure}
use Rattle.bpftap_c.specs.declared.outcome.Failure.TheVariants.{NotText, Expression}

-- from this byte on the bytes are not UTF-8
abbrev pub IsNotText : List ℕ → Failure → Type 0
IsNotText bytes (NotText place) = (IsUtf8 bytes → ⊥) × (place ≡ utf8_valid_len bytes)
IsNotText bytes other = ⊥

-- A program of the expression, all of whose instructions can be reached. An expression that is refused has no program, or memory ran
-- out; one that fits is refused only if memory ran out. A text above 8,192 bytes is refused for its length, and before that one that
-- is not UTF-8.
abbrev pub IsCompiled : List ℕ → ℕ → Result (List Insn) Failure → Type 0
IsCompiled text snap (Ok program) =
    (length text ≤ 8192) × IsProgramOf text snap program × IsAllReached program × (IsBadSnap snap → ⊥)
    × ((tree : Tree) → ReadsAs text tree → need tree ≤ 16)
IsCompiled text snap (Err (Expression fault)) =
    IsUtf8 text × ((fault ≡ expression.Text misread.TextTooLong) ↔ (8192 < length text)) × IsUncompiled text snap fault
    × ((tree : Tree) → length text ≤ 8192 → ReadsAs text tree → Fits tree snap → fault ≡ expression.Text misread.NoMemory)
IsCompiled text snap (Err failure) = IsNotText text failure
