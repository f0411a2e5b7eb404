use Rattle.std.proofs.Common.{[], ◌∷◌, Some}
use Rattle.listener.specs.declared.answer.Fed.TheVariants.{Stored, Closed}
use Rattle.handover.specs.declared.calls.Feed.TheVariants.{Arrive}
use Rattle.handover.proofs.stand.Stand.keep.Given as goal

abbrev pub ghosts-see_closed : goal.ghosts-see_closed
ghosts-see_closed g a = record { quiet = Arrive (Some g.message) Stored ∷ []; late = Arrive (Some g.message) Closed }
