-- What is printed of an expression.
use Rattle.std.specs.Prelude.{◌≡◌, ◌<◌, ◌≤◌, ◌↔◌, ℕ, List, codes, length, Result, Ok, Err, IsUtf8}
use Rattle.filter_tree.specs.Trees.{Tree}
use Rattle.filter_print.specs.Canonical.{canonical}
use Rattle.filterlang.specs.Texts.{ReadsAs, IsRefusalOf}
use Rattle.filterlang.specs.declared.fault.Fault.TheVariants as misread
use Rattle.filtergen.specs.declared.expression.ExpressionFault.TheVariants as expression
use Rattle.bpftap_c.specs.declared.outcome.Failure.{Failure}
use Rattle.bpftap_c.specs.declared.outcome.Failure.TheVariants.{NoMemory, Expression}
use Rattle.bpftap_c.specs.Filters.{IsNotText}

-- the expression of a text that is not too long
abbrev pub IsRead : List ℕ → Tree → Type 0
IsRead text tree = (length text ≤ 8192) × ReadsAs text tree

-- the text is an expression
abbrev pub IsExpression : List ℕ → Type 0
IsExpression text = (tree : Tree) × IsRead text tree

-- Why nothing is made of a text. One that has a tree is refused only if memory ran out, one above 8,192 bytes for its length, and before
-- that one that is not UTF-8. Or it is an expression, and memory ran out later.
abbrev pub IsUnread : List ℕ → Failure → Type 0
IsUnread text (Expression (expression.Text fault)) =
    IsUtf8 text × ((fault ≡ misread.TextTooLong) ↔ (8192 < length text)) × IsRefusalOf text fault × ((tree : Tree) → length text ≤ 8192 → ReadsAs text tree → fault ≡ misread.NoMemory)
IsUnread text NoMemory = IsExpression text
IsUnread text failure = IsNotText text failure

-- the canonical text of the expression, or why there is none
abbrev pub IsPrinted : List ℕ → Result (List ℕ) Failure → Type 0
IsPrinted text (Ok line) = (tree : Tree) × IsRead text tree × (line ≡ canonical tree)
IsPrinted text (Err failure) = IsUnread text failure

-- the version of the library, and the processor that it is made for
abbrev pub version : List ℕ
version = codes "2.8.0 x86-64-v2"
