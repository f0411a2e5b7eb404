-- The answer of a read.
use Rattle.std.specs.Prelude.{◌≡◌, ℕ, List, []}
use Rattle.listener.specs.Buffers.{filled}
use Rattle.handover.specs.declared.calls.Take.{Take}
use Rattle.handover.specs.declared.calls.Take.TheVariants as call
use Rattle.handover.specs.declared.calls.EndStep.{EndStep}
use Rattle.handover.specs.declared.drain.Read.{Read}
use Rattle.handover.specs.declared.drain.Read.TheVariants.{Full, Nothing, Ended}
use Rattle.handover.specs.Orders.{last_given}

-- the read in the drain's list
abbrev pub take_of : Read → Take
take_of (Full buffer) = call.Full buffer.messages
take_of (Nothing buffer) = call.Nothing
take_of (Ended buffer) = call.Ended

-- what comes back has this capacity, and is empty where nothing was read
abbrev pub HasBuffer : ℕ → Read → Type 0
HasBuffer capacity (Full buffer) = buffer.capacity ≡ capacity
HasBuffer capacity (Nothing buffer) = buffer ≡ filled capacity []
HasBuffer capacity (Ended buffer) = buffer ≡ filled capacity []

-- a batch is what was handed over last, of all that was seen
abbrev pub IsLastGiven : Read → List EndStep → Type 0
IsLastGiven (Full buffer) seen = buffer.messages ≡ last_given seen
IsLastGiven (Nothing buffer) seen = Unit {0}
IsLastGiven (Ended buffer) seen = Unit {0}
