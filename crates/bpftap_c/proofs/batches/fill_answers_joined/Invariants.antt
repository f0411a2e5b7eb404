use Rattle.std.proofs.Common.{◌≡◌, ◌++◌, take, drop}
use Rattle.bpftap_c.specs.Batches.{answers_joined}
use Rattle.bpftap_c.proofs.batches.fill_answers_joined.Given as goal

abbrev pub invariant-loop-place : goal.invariant-loop-place
invariant-loop-place l =
    answers_joined l.program l.memory l.sizes ≡ take l.place l.answers ++ answers_joined l.program l.rest (drop l.place l.sizes)
