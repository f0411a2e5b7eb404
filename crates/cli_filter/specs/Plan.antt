-- The plan of a file of lines, each of which names a capture to write, by its OUT, and a filter. `Is` says what a line says; `output`,
-- `expression` and `snap` are what that has of OUT, of the filter and of the snapshot length. `shared` says of an OUT whether several
-- lines may have it.
use Rattle.std.specs.Prelude.{◌≡◌, ◌≢◌, ℕ, ◌+◌, ◌⊎◌, Bool, true, false, if◌then◌else◌, List, [], ◌∷◌, ◌++◌, length, take, Any, AllPairs, Some, codes, slice_get}
use Rattle.std.specs.Fmt.{decimal}
use Rattle.std.specs.List.{AllZip}
use Rattle.std.specs.Str.{IsUtf8}
use Rattle.bpfvm.specs.Listing.{space, further_lines}
use Rattle.bpfvm.specs.declared.insn.Insn.{Insn}
use Rattle.filterlang.specs.declared.fault.Fault.TheVariants as misread
use Rattle.filtergen_facts.specs.declared.refusal.Refusal.TheVariants as uncompiled
use Rattle.filtergen.specs.declared.expression.ExpressionFault.{ExpressionFault}
use Rattle.filtergen.specs.declared.expression.ExpressionFault.TheVariants.{Text, Tree}
use Rattle.filtergen.specs.Expressions.{IsProgramOf, IsUncompiled}
use Rattle.filterlang.specs.Faults.{fault_text}
use Rattle.filtergen_facts.specs.Faults.{refusal_text}
use Rattle.line_text.specs.Fields.{IsWord}
use Rattle.line_text.specs.Files.{Say, IsFileOf}
use Rattle.cli_filter.specs.declared.plan.PlanFault.{PlanFault}
use Rattle.cli_filter.specs.declared.plan.PlanFault.TheVariants.{Line, Expression, TooMany, NoMemory}

-- the end of a line is OUT, a space and EXPRESSION; if EXPRESSION is empty the space before it may be missing
abbrev pub AreCut : List ℕ → List ℕ → List ℕ → Type 0
AreCut rest output expression = (rest ≡ output ++ space ∷ expression) ⊎ ((rest ≡ output) × (expression ≡ []))

-- OUT has a byte and no space; both are UTF-8
pub record AreLastFields (rest output expression : List ℕ) : Type 0 where
  pub cut : AreCut rest output expression
  pub one_output : IsWord output
  pub named : output ≢ []
  pub output_text : IsUtf8 output
  pub expression_text : IsUtf8 expression

-- no two have the same OUT, but for one that several may have
abbrev pub HaveOwnOutputs : {X : Type 0} → (X → List ℕ) → (List ℕ → Bool) → List X → Type 0
HaveOwnOutputs output shared asked = AllPairs (λ earlier later. shared (output later) ≡ false → output earlier ≢ output later) asked

-- each line of a text says something, with an OUT of its own
abbrev pub AreAllLines : {X : Type 0} → (List ℕ → X → Type 0) → (X → List ℕ) → (List ℕ → Bool) → List ℕ → List X → Type 0
AreAllLines Is output shared text asked = IsFileOf Is text asked × HaveOwnOutputs output shared asked

-- Each line of a text says something, with an OUT of its own; the first of these, `most` at most, are kept.
abbrev pub AreLines : {X : Type 0} → (List ℕ → X → Type 0) → (X → List ℕ) → (List ℕ → Bool) → ℕ → List ℕ → List X → Type 0
AreLines {X} Is output shared most text kept = (asked : List X) × IsFileOf Is text asked × HaveOwnOutputs output shared asked × (kept ≡ take most asked)

-- the n-th line of a text, from 1, is the first bad one: it lacks the form, or has the OUT of an earlier line, which several may not have
pub record IsFirstBadLine {X : Type 0} (Is : List ℕ → X → Type 0) (output : X → List ℕ) (shared : List ℕ → Bool) (text : List ℕ) (n : ℕ) : Type 0 where
  pub before : List (List ℕ)
  pub line : List ℕ
  pub behind : List (List ℕ)
  pub lines : further_lines text ≡ before ++ line ∷ behind
  pub said : List X
  pub good : Say Is before said
  pub own : HaveOwnOutputs output shared said
  pub bad : (asked : X) → Is line asked → (shared (output asked) ≡ false) × Any (λ earlier. output earlier ≡ output asked) said
  pub place : n ≡ length before + 1

-- why the lines are refused: the first bad line, or out of memory
abbrev pub AreNoLines : {X : Type 0} → (List ℕ → X → Type 0) → (X → List ℕ) → (List ℕ → Bool) → List ℕ → PlanFault → Type 0
AreNoLines Is output shared text (Line n) = IsFirstBadLine Is output shared text n
AreNoLines Is output shared text (Expression n why) = ⊥
AreNoLines Is output shared text TooMany = ⊥
AreNoLines Is output shared text NoMemory = Unit {0}

-- the program stands for a line's expression at its snapshot length
abbrev pub IsCompiled : {X : Type 0} → (X → List ℕ) → (X → ℕ) → X → List Insn → Type 0
IsCompiled expression snap asked program = IsProgramOf (expression asked) (snap asked) program

-- each line's expression has a program, and the first of these, `most` at most, are kept
abbrev pub AreFirstPrograms : {X : Type 0} → (X → List ℕ) → (X → ℕ) → ℕ → List X → List (List Insn) → Type 0
AreFirstPrograms expression snap most lines kept = (all : List (List Insn)) × AllZip (IsCompiled expression snap) lines all × (kept ≡ take most all)

-- Each line of a text says something, with an OUT of its own, and its expression has a program; the first of both, `most` at most, are kept.
pub record ArePlanned {X : Type 0} (Is : List ℕ → X → Type 0) (output : X → List ℕ) (shared : List ℕ → Bool) (expression : X → List ℕ) (snap : X → ℕ) (most : ℕ) (text : List ℕ) (lines : List X) (programs : List (List Insn)) : Type 0 where
  pub asked : List X
  pub all : AreAllLines Is output shared text asked
  pub first : lines ≡ take most asked
  pub compiled : AreFirstPrograms expression snap most asked programs

-- the n-th of these lines, from 0, is the first whose expression has no program, for this cause
pub record IsFirstUncompiled {X : Type 0} (expression : X → List ℕ) (snap : X → ℕ) (lines : List X) (n : ℕ) (why : ExpressionFault) : Type 0 where
  pub asked : X
  pub at : slice_get lines n ≡ Some asked
  pub applies : IsUncompiled (expression asked) (snap asked) why
  pub programs : List (List Insn)
  pub earlier : AllZip (IsCompiled expression snap) (take n lines) programs

-- why there are no programs: the first expression that has none, or out of memory
abbrev pub AreUncompiled : {X : Type 0} → (X → List ℕ) → (X → ℕ) → List X → PlanFault → Type 0
AreUncompiled expression snap lines (Line n) = ⊥
AreUncompiled expression snap lines (Expression n why) = IsFirstUncompiled expression snap lines n why
AreUncompiled expression snap lines TooMany = ⊥
AreUncompiled expression snap lines NoMemory = Unit {0}

-- why there is no plan: the first bad line; else the first expression that has no program; or out of memory
abbrev pub IsRefusedPlan : {X : Type 0} → (List ℕ → X → Type 0) → (X → List ℕ) → (List ℕ → Bool) → (X → List ℕ) → (X → ℕ) → List ℕ → PlanFault → Type 0
IsRefusedPlan Is output shared expression snap text (Line n) = IsFirstBadLine Is output shared text n
IsRefusedPlan {X} Is output shared expression snap text (Expression n why) =
    (lines : List X) × AreAllLines Is output shared text lines × IsFirstUncompiled expression snap lines n why
IsRefusedPlan Is output shared expression snap text TooMany = ⊥
IsRefusedPlan Is output shared expression snap text NoMemory = Unit {0}

-- whether it is memory that lacks, which is no fault of the expression
abbrev pub lacks_memory : ExpressionFault → Bool
lacks_memory (Text misread.NoMemory) = true
lacks_memory (Tree uncompiled.NoMemory) = true
lacks_memory fault = false

-- the fault of the expression of a line, from 0
abbrev pub text_of_line : ℕ → ExpressionFault → List ℕ
text_of_line n (Text fault) = codes "Expression " ++ decimal n ++ codes " " ++ fault_text fault
text_of_line n (Tree refusal) = codes "Compile " ++ decimal n ++ codes " " ++ refusal_text refusal

-- how the fault of the n-th line's expression is printed; out of memory has no place
abbrev pub uncompiled_text : ℕ → ExpressionFault → List ℕ
uncompiled_text n fault = if lacks_memory fault then codes "NoMemory" else text_of_line n fault

-- how a fault is printed; that of a line begins with the name of the file
abbrev pub plan_fault_text : List ℕ → PlanFault → List ℕ
plan_fault_text file (Line n) = file ++ codes " " ++ decimal n
plan_fault_text file (Expression n why) = uncompiled_text n why
plan_fault_text file TooMany = codes "TooMany"
plan_fault_text file NoMemory = codes "NoMemory"
