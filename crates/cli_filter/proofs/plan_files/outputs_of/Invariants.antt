use Rattle.std.proofs.Common.{◌≡◌, take}
use Rattle.std.specs.List.{AllZip}
use Rattle.std.specs.Prelude.{vec_len}
use Rattle.cli_filter.proofs.plan_files.outputs_of.Given as goal

-- the lines before have their OUTs
abbrev pub invariant-loop-line : goal.invariant-loop-line
invariant-loop-line g l = record {
  outputs : AllZip (λ line output. output.now ≡ g.L.PlanLine.output_of line) (take l.line-index l.lines) l.outputs.items;
  all : vec_len l.outputs ≡ l.line-index;
}
