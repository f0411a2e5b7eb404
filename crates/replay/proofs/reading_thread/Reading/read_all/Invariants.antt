use Rattle.std.proofs.Common.{◌≡◌, [], IfSome}
use Rattle.rtrb.specs.Ring.{SameProducer}
use Rattle.listener.specs.Buffers.{filled}
use Rattle.handover.specs.Ends.{IsSameDrain}
use Rattle.replay.proofs.reading_thread.Reading.read_all.Given as goal

abbrev pub invariant-loop : goal.invariant-loop
invariant-loop g l =
    IsSameDrain l.fn.self.drain l.self.drain
    × SameProducer l.fn.self.full l.self.full
    × IfSome l.spare (λ b. b ≡ filled l.fn.self.drain.profile.capacity [])
    × (l.capacity ≡ l.fn.self.drain.profile.capacity)
