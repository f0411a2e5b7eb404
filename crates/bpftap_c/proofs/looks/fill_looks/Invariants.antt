use Rattle.std.proofs.Common.{◌≡◌, take, map}
use Rattle.bpftap_c.specs.Looks.{look_of}
use Rattle.bpftap_c.proofs.looks.fill_looks.Given as goal

abbrev pub invariant-loop-place : goal.invariant-loop-place
invariant-loop-place l = take l.place l.to ≡ map look_of (take l.place l.looks)
