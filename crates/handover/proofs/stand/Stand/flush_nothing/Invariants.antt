use Rattle.std.proofs.Common.{false, [], ◌∷◌}
use Rattle.handover.specs.declared.calls.Feed.TheVariants.{Flush, FlushClosed}
use Rattle.handover.proofs.stand.Stand.flush_nothing.Given as goal

abbrev pub ghosts-see_closed : goal.ghosts-see_closed
ghosts-see_closed a = record { quiet = Flush false ∷ []; late = FlushClosed }
