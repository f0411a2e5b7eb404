use Rattle.std.proofs.Common.{◌≡◌, []}
use Rattle.listener.specs.Buffers.{filled}
use Rattle.test_listener.proofs.listeners.caller.kept_bytes.Given as goal

-- the spare buffer is empty, and of the listener's capacity
abbrev pub invariant-loop-place : goal.invariant-loop-place
invariant-loop-place l = l.spare ≡ filled l.tap.terms.capacity []
