-- What was asked of a feeder, without the answers.
use Rattle.std.specs.Prelude.{List, [], ◌∷◌}
use Rattle.listener.specs.PlainList.{Request, Arrive, Flush}
use Rattle.handover.specs.declared.calls.Feed.{Feed}
use Rattle.handover.specs.declared.calls.Feed.TheVariants as call

-- a flush that found the pair closed was asked as any other
abbrev pub asks : List Feed → List Request
asks [] = []
asks (call.Arrive m answer ∷ fs) = Arrive m ∷ asks fs
asks (call.Flush full ∷ fs) = Flush ∷ asks fs
asks (call.FlushClosed ∷ fs) = Flush ∷ asks fs
