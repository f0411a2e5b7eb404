use Rattle.std.proofs.Common.{◌≡◌, take, map}
use Rattle.bpftap_c.specs.Batches.{answer_to}
use Rattle.bpftap_c.proofs.batches.fill_answers.Given as goal

abbrev pub invariant-loop-place : goal.invariant-loop-place
invariant-loop-place l = take l.place l.answers ≡ map (answer_to l.program) (take l.place l.packets)
