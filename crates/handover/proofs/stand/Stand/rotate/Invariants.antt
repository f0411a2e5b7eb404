use Rattle.std.proofs.Common.{[], Some}
use Rattle.listener.specs.declared.answer.Fed.TheVariants.{Rotated, Dropped, Closed}
use Rattle.handover.specs.declared.calls.Feed.TheVariants.{Arrive}
use Rattle.handover.proofs.stand.Stand.rotate.Given as goal

abbrev pub ghosts-see_closed : goal.ghosts-see_closed
ghosts-see_closed g a = record { quiet = []; late = Arrive (Some g.message) Closed }

abbrev pub ghosts-see_turn : goal.ghosts-see_turn
ghosts-see_turn g a = record { call = Arrive (Some g.message) Dropped }

abbrev pub ghosts-give_turn : goal.ghosts-give_turn
ghosts-give_turn g a = record { call = Arrive (Some g.message) Rotated }
