use Rattle.std.proofs.Common.{[], ◌∷◌, None}
use Rattle.listener.specs.declared.answer.Fed.TheVariants.{Passed, Closed}
use Rattle.handover.specs.declared.calls.Feed.TheVariants.{Arrive}
use Rattle.handover.proofs.stand.Stand.pass.Given as goal

abbrev pub ghosts-see_closed : goal.ghosts-see_closed
ghosts-see_closed a = record { quiet = Arrive None Passed ∷ []; late = Arrive None Closed }
