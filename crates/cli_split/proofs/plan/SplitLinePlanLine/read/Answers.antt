use Rattle.std.proofs.Common.{List, ℕ}
use Rattle.line_text.proofs.Cuts.{if_none}
use Rattle.cli_split.specs.Lines.{IsSplitLine}
use Rattle.cli_split.specs.declared.plan.SplitLine.{SplitLine}
use Rattle.cli_split.proofs.Planned.{says_none_uncut, says_none_snap, says_none_rest, one_output}
use Rattle.cli_split.proofs.plan.SplitLinePlanLine.read.Goals as goal

-- a line that says no capture
abbrev SaysNone : List ℕ → Type 0
SaysNone line = (asked : SplitLine) → IsSplitLine line asked → ⊥

pub returns-in_err-snap-clause-none : goal.returns-in_err-snap-clause-none
returns-in_err-snap-clause-none c = if_none _ (SaysNone c.args.line.now) (says_none_uncut c.args.line.now c.in_err-snap.ensures.none)

pub returns-in_err-snap-2-clause-none : goal.returns-in_err-snap-2-clause-none
returns-in_err-snap-2-clause-none c =
    if_none _ (SaysNone c.args.line.now) (says_none_snap c.args.line.now _ _ c.in_ok-snap.ensures.parts c.in_ok-snap.ensures.first c.in_err-snap-2.ensures.none)

pub returns-in_err-output-clause-none : goal.returns-in_err-output-clause-none
returns-in_err-output-clause-none c =
    if_none _ (SaysNone c.args.line.now) (says_none_rest c.args.line.now _ _ c.in_ok-snap.ensures.parts c.in_ok-snap.ensures.first c.in_err-output.ensures.none)

pub returns-clause-one_output : goal.returns-clause-one_output
returns-clause-one_output c = one_output c.args.line.now _ _ c.in_ok-snap.ensures.parts c.in_ok-snap.ensures.first _ _ c.in_ok-output.ensures.some
