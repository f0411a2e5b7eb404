-- The file LINES.
use Rattle.std.specs.Prelude.{◌≡◌, ℕ, ◌<◌, Bool, List, ◌∷◌, ◌++◌, length, codes, bytes_eq}
use Rattle.bpfvm.specs.Listing.{space}
use Rattle.bpfvm.specs.declared.insn.Insn.{Insn}
use Rattle.line_text.specs.Fields.{IsWord, IsSnap}
use Rattle.line_text.specs.Files.{IsFileOf}
use Rattle.cli_filter.specs.Plan as plan
use Rattle.cli_filter.specs.Plan.{AreLastFields}
use Rattle.cli_filter.specs.declared.plan.PlanFault.{PlanFault}
use Rattle.cli_filter.specs.declared.plan.PlanFault.TheVariants.{Line, Expression, TooMany, NoMemory}
use Rattle.cli_split.specs.declared.plan.SplitLine.{SplitLine}

-- `SNAP OUT EXPRESSION`, with one space after SNAP
pub record IsSplitLine (line : List ℕ) (asked : SplitLine) : Type 0 where
  pub snap : List ℕ
  pub rest : List ℕ
  pub cut : line ≡ snap ++ space ∷ rest
  pub one_snap : IsWord snap
  pub snap_is : IsSnap snap asked.snap
  pub last : AreLastFields rest asked.output.now asked.expression.now

-- OUT is `/dev/null`, which keeps nothing
abbrev pub is_null : List ℕ → Bool
is_null output = bytes_eq output (codes "/dev/null")

-- no two have the same OUT, but for `/dev/null`
abbrev pub HaveOwnOutputs : List SplitLine → Type 0
HaveOwnOutputs asked = plan.HaveOwnOutputs (λ (line : SplitLine). line.output.now) is_null asked

-- The lines of a text ask for captures, each with an OUT of its own, or with `/dev/null`.
abbrev pub AreSplitLines : List ℕ → List SplitLine → Type 0
AreSplitLines text asked = IsFileOf IsSplitLine text asked × HaveOwnOutputs asked

-- the n-th line of a text, from 1, is the first that lacks the form, or has the OUT of an earlier line and not `/dev/null`
abbrev pub IsFirstBadLine : List ℕ → ℕ → Type 0
IsFirstBadLine text n = plan.IsFirstBadLine IsSplitLine (λ line. line.output.now) is_null text n

-- the program stands for a line's expression
abbrev pub IsCompiled : SplitLine → List Insn → Type 0
IsCompiled asked program = plan.IsCompiled (λ (line : SplitLine). line.expression.now) (λ line. line.snap) asked program

-- Why captures are not split as LINES asks: its first bad line; else that it has more than 1,024; else its first expression that has no
-- program; or out of memory.
abbrev pub IsRefusedPlan : List ℕ → PlanFault → Type 0
IsRefusedPlan text (Line n) = IsFirstBadLine text n
IsRefusedPlan text (Expression n why) =
    (lines : List SplitLine) × AreSplitLines text lines × plan.IsFirstUncompiled (λ line. line.expression.now) (λ line. line.snap) lines n why
IsRefusedPlan text TooMany = (lines : List SplitLine) × AreSplitLines text lines × (1024 < length lines)
IsRefusedPlan text NoMemory = Unit {0}
