-- The plan of LINES.
use Rattle.std.proofs.Common.{◌≡◌, ℕ, ◌<◌, ◌≤◌, List, ◌∷◌, ◌++◌, All, length, length-take, take, take_all, ap, sym, ◌∙◌, subst, arith}
use Rattle.bpfvm.specs.Listing.{space}
use Rattle.line_text.specs.Fields.{IsSnap}
use Rattle.line_text.specs.Files.{IsFileOf}
use Rattle.line_text.proofs.Cuts.{NoSpace, not-lacking, cut-one}
use Rattle.std.proofs.lemmas.List.Elements.{All-same}
use Rattle.cli_filter.specs.Plan as plan
use Rattle.cli_filter.specs.Plan.{AreLastFields}
use Rattle.cli_filter.specs.declared.plan.PlanFault.{PlanFault}
use Rattle.cli_filter.specs.declared.plan.PlanFault.TheVariants.{Line, Expression, TooMany, NoMemory}
use Rattle.cli_filter.proofs.Fields.{fields_once}
use Rattle.cli_split.specs.Lines.{AreSplitLines, HaveOwnOutputs, IsRefusedPlan, IsSplitLine, is_null}
use Rattle.cli_split.specs.declared.plan.SplitLine.{SplitLine}

-- a line without a space says nothing
pub says_none_uncut : (line : List ℕ) → All NoSpace line → (asked : SplitLine) → IsSplitLine line asked → ⊥
says_none_uncut line lacks asked is = not-lacking space is.snap is.rest (All-same NoSpace (is.snap ++ space ∷ is.rest) line (sym is.cut) lacks)

-- what was cut off is SNAP and the rest
module _ (line snap rest : List ℕ) (cut : line ≡ snap ++ space ∷ rest) (word : All NoSpace snap) where
  pub says_none_snap : ((n : ℕ) → IsSnap snap n → ⊥) → (asked : SplitLine) → IsSplitLine line asked → ⊥
  says_none_snap none asked is =
      let one = cut-one space is.snap is.rest snap rest is.one_snap word (sym is.cut ∙ cut) in
      none asked.snap (subst (λ (t : List ℕ). IsSnap t asked.snap) one.0 is.snap_is)

  pub says_none_rest : ((output expression : List ℕ) → AreLastFields rest output expression → ⊥) → (asked : SplitLine) → IsSplitLine line asked → ⊥
  says_none_rest none asked is =
      let one = cut-one space is.snap is.rest snap rest is.one_snap word (sym is.cut ∙ cut) in
      none asked.output.now asked.expression.now (subst (λ (t : List ℕ). AreLastFields t asked.output.now asked.expression.now) one.1 is.last)

  pub one_output : (output expression : List ℕ) → AreLastFields rest output expression → (other : SplitLine) → IsSplitLine line other → other.output.now ≡ output
  one_output output expression are other is =
      let one = cut-one space is.snap is.rest snap rest is.one_snap word (sym is.cut ∙ cut) in
      (fields_once rest other.output.now other.expression.now output expression (subst (λ (t : List ℕ). AreLastFields t other.output.now other.expression.now) one.1 is.last) are).0

-- of at most 1,025 lines that are kept, no more than 1,024 are all that a text has
pub all_few : (text : List ℕ) (kept : List SplitLine) → length kept ≤ 1024 → plan.AreLines IsSplitLine (λ line. line.output.now) is_null 1025 text kept → AreSplitLines text kept
all_few text kept few are =
    let kept_is : length kept ≡ length (take 1025 are.0) = ap (λ (xs : List SplitLine). length xs) are.3 in
    let asked_few : length are.0 ≤ 1025 = omega (arith, few, kept_is, length-take 1025 are.0) in
    let all : are.0 ≡ kept = sym (are.3 ∙ take_all 1025 are.0 asked_few) in
    (subst (λ (xs : List SplitLine). IsFileOf IsSplitLine text xs) all are.1, subst (λ (xs : List SplitLine). HaveOwnOutputs xs) all are.2)

pub too_many : (text : List ℕ) (kept : List SplitLine) → 1024 < length kept → plan.AreLines IsSplitLine (λ line. line.output.now) is_null 1025 text kept → IsRefusedPlan text TooMany
too_many text kept many are =
    let kept_is : length kept ≡ length (take 1025 are.0) = ap (λ (xs : List SplitLine). length xs) are.3 in
    (are.0, (are.1, are.2), omega (arith, many, kept_is, length-take 1025 are.0))

pub unread : (text : List ℕ) (fault : PlanFault) → plan.AreNoLines IsSplitLine (λ line. line.output.now) is_null text fault → IsRefusedPlan text fault
unread text (Line n) why = why
unread text (Expression n fault) why = absurd why
unread text TooMany why = absurd why
unread text NoMemory why = tt

pub uncompiled : (text : List ℕ) (lines : List SplitLine) (fault : PlanFault) → AreSplitLines text lines
    → plan.AreUncompiled (λ (line : SplitLine). line.expression.now) (λ line. line.snap) lines fault → IsRefusedPlan text fault
uncompiled text lines (Line n) are why = absurd why
uncompiled text lines (Expression n fault) are why = (lines, are, why)
uncompiled text lines TooMany are why = absurd why
uncompiled text lines NoMemory are why = tt
