use Rattle.std.proofs.Common.{true, false, []}
use Rattle.handover.specs.declared.calls.Feed.TheVariants.{Flush, FlushClosed}
use Rattle.handover.proofs.stand.Stand.flush_store.Given as goal

abbrev pub ghosts-see_closed : goal.ghosts-see_closed
ghosts-see_closed a = record { quiet = []; late = FlushClosed }

abbrev pub ghosts-see_turn : goal.ghosts-see_turn
ghosts-see_turn a = record { call = Flush false }

abbrev pub ghosts-give_turn : goal.ghosts-give_turn
ghosts-give_turn a = record { call = Flush true }
