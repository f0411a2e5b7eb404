use Rattle.std.proofs.Common.{◌≡◌, take, map}
use Rattle.bpftap_c.specs.Traces.{executed_of}
use Rattle.bpftap_c.proofs.traces.fill_executed.Given as goal

abbrev pub invariant-loop-place : goal.invariant-loop-place
invariant-loop-place l = take l.place l.to ≡ map executed_of (take l.place l.run)
