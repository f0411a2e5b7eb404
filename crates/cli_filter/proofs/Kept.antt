-- The first lines of a file and their programs, which a plan keeps.
use Rattle.std.proofs.Common.{◌≡◌, ℕ, ◌+◌, ◌<◌, ◌≤◌, Bool, List, [], ◌∷◌, ◌++◌, get_or, length, take, take_all, length-take, ap, subst, sym, ◌∙◌, arith}
use Rattle.std.specs.List.{AllZip, slice_split}
use Rattle.std.proofs.lemmas.List.Splits.{length-slice_split}
use Rattle.std.proofs.lemmas.List.Sums.{count_by-le-length}
use Rattle.bpfvm.specs.Listing.{is_line_feed, further_lines, without_empty_last}
use Rattle.bpfvm.specs.declared.insn.Insn.{Insn}
use Rattle.line_text.specs.Files.{IsFileOf}
use Rattle.line_text.proofs.Reading.{length-Say}
use Rattle.cli_filter.specs.declared.plan.PlanFault.{PlanFault}
use Rattle.cli_filter.specs.declared.plan.PlanFault.TheVariants.{Line, Expression, TooMany, NoMemory}
use Rattle.cli_filter.specs.Plan.{HaveOwnOutputs, AreAllLines, AreLines, AreFirstPrograms, AreUncompiled, IsCompiled, IsRefusedPlan}
use Rattle.cli_filter.proofs.Outputs.{kept-few, kept-many}
use Rattle.cli_filter.proofs.Planned.{zip-length, zip_more}

-- ---- lines

no-more : (pieces : List (List ℕ)) → length (without_empty_last pieces) ≤ length pieces
no-more [] = omega arith
no-more ([] ∷ []) = omega arith
no-more ([] ∷ (y ∷ ys)) = omega (arith, no-more (y ∷ ys))
no-more ((b ∷ bs) ∷ pieces) = omega (arith, no-more pieces)

-- a text has no more lines than one and its bytes, so all are kept where that many are
pub all_lines : {X : Type 0} (Is : List ℕ → X → Type 0) (output : X → List ℕ) (shared : List ℕ → Bool) (most : ℕ) (text : List ℕ) (kept : List X) → length text < most
    → AreLines Is output shared most text kept → AreAllLines Is output shared text kept
all_lines {X} Is output shared most text kept short are =
    let few : length are.0 ≤ most =
    omega (arith, short, length-Say Is (further_lines text) are.0 are.1, no-more (slice_split is_line_feed text), length-slice_split is_line_feed text, count_by-le-length is_line_feed text) in
    let all : are.0 ≡ kept = sym (are.3 ∙ take_all most are.0 few) in
    (subst (λ (xs : List X). IsFileOf Is text xs) all are.1, subst (λ (xs : List X). HaveOwnOutputs output shared xs) all are.2)

-- ---- programs

-- one more has a program
module _ {X : Type 0} (expression : X → List ℕ) (snap : X → ℕ) (most : ℕ) (lines : List X) (n : ℕ) (d : X) (kept : List (List Insn)) (program : List Insn)
    (inside : n < length lines) (before : AreFirstPrograms expression snap most (take n lines) kept) (one : IsCompiled expression snap (get_or lines n d) program) where
  one-more : (now : List (List Insn)) → now ≡ take most (before.0 ++ program ∷ []) → AreFirstPrograms expression snap most (take (n + 1) lines) now
  one-more now first = (before.0 ++ program ∷ [], zip_more (IsCompiled expression snap) lines before.0 n d program inside before.1 one, first)

  pub kept_program : length kept < most → AreFirstPrograms expression snap most (take (n + 1) lines) (kept ++ program ∷ [])
  kept_program few = one-more _ (kept-few most kept before.0 program before.2 few)

  pub passed_program : most ≤ length kept → AreFirstPrograms expression snap most (take (n + 1) lines) kept
  passed_program many = one-more _ (kept-many most kept before.0 program before.2 many)

-- where as many are kept as there are lines, each line has its own
pub all_programs : {X : Type 0} (expression : X → List ℕ) (snap : X → ℕ) (lines : List X) (kept : List (List Insn)) → AreFirstPrograms expression snap (length lines) lines kept
    → AllZip (IsCompiled expression snap) lines kept
all_programs expression snap lines kept first =
    let all : first.0 ≡ kept = sym (first.2 ∙ take_all (length lines) first.0 (omega (arith, zip-length (IsCompiled expression snap) lines first.0 first.1))) in
    subst (λ (programs : List (List Insn)). AllZip (IsCompiled expression snap) lines programs) all first.1

-- ---- the plan

-- as many lines are kept as programs
pub length_planned : {X : Type 0} (expression : X → List ℕ) (snap : X → ℕ) (most : ℕ) (asked lines : List X) (programs : List (List Insn)) → lines ≡ take most asked
    → AreFirstPrograms expression snap most asked programs → length programs ≡ length lines
length_planned {X} expression snap most asked lines programs first compiled =
    omega (
      arith,
      ap (λ (ls : List X). length ls) first,
      ap (λ (ps : List (List Insn)). length ps) compiled.2,
      length-take most asked,
      length-take most compiled.0,
      zip-length (IsCompiled expression snap) asked compiled.0 compiled.1,
    )

-- all lines are right, and an expression has no program
pub uncompiled : {X : Type 0} (Is : List ℕ → X → Type 0) (output : X → List ℕ) (shared : List ℕ → Bool) (expression : X → List ℕ) (snap : X → ℕ) (text : List ℕ) (lines : List X) (fault : PlanFault)
    → AreAllLines Is output shared text lines → AreUncompiled expression snap lines fault → IsRefusedPlan Is output shared expression snap text fault
uncompiled Is output shared expression snap text lines (Line n) are why = absurd why
uncompiled Is output shared expression snap text lines (Expression n fault) are why = (lines, are, why)
uncompiled Is output shared expression snap text lines TooMany are why = absurd why
uncompiled Is output shared expression snap text lines NoMemory are why = tt
