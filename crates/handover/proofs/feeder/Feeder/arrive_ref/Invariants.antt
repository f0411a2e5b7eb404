use Rattle.listener.specs.Messages.{arrival, cut_to}
use Rattle.handover.proofs.feeder.Feeder.arrive_ref.Given as goal

abbrev pub ghost-take : goal.ghost-take
ghost-take a = cut_to a.packet.now.kept (arrival a.packet.now.capture a.packet.now.place a.packet.now.packet.now)
