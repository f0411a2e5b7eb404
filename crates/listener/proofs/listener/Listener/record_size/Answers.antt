use Rattle.std.proofs.Common.{Some, option_map, ap, sym, ◌∙◌}
use Rattle.listener.specs.Messages.{arrival, size_of}
use Rattle.listener.proofs.ArriveSteps.{size_cut}
use Rattle.listener.proofs.listener.Listener.record_size.Goals as goal

pub returns-in_default : goal.returns-in_default
returns-in_default c capture place = rw (← c.self.view_is) (sym (ap (option_map size_of) (c.in_default.ensures.rejected capture place)))

pub returns : goal.returns
returns c capture place =
    let k = c.in-Some.ensures.kept capture place in
    rw (← c.self.view_is) (ap Some c.size.ensures ∙ sym (ap (option_map size_of) k.message ∙ ap Some (size_cut (arrival capture place c.args.packet.now) c.in-Some.kept k.captured)))
