use Rattle.std.proofs.Common.{◌≡◌, ◌+◌}
use Rattle.rtrb.specs.Ring.{known_free}
use Rattle.replay.proofs.setup.spare_buffers.Given as goal

-- the slots that are free yet
abbrev pub invariant-loop : goal.invariant-loop
invariant-loop l = known_free l.empty_in + l.counter ≡ l.spares
