use Rattle.std.proofs.Common.{◌≡◌, ◌++◌, drop, false}
use Rattle.cli_split.specs.SplitFiles.{own_outputs}
use Rattle.cli_split.proofs.paths.own_outputs.Given as goal

-- the OUTs so far, and those of the lines that are left
abbrev pub invariant-loop-line : goal.invariant-loop-line
invariant-loop-line l = l.outputs.items ++ own_outputs l.has_null (drop l.line-index l.lines) ≡ own_outputs false l.fn.lines
