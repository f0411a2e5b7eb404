use Rattle.std.proofs.Common.{◌≡◌, take, map}
use Rattle.bpftap_c.specs.Batches.{answer_in}
use Rattle.bpftap_c.proofs.batches.fill_answers_in.Given as goal

abbrev pub invariant-loop-place : goal.invariant-loop-place
invariant-loop-place l = take l.place l.answers ≡ map (answer_in l.program l.memory) (take l.place l.spans)
