use Rattle.std.proofs.Common.{◌≡◌, ◌++◌, map, take, drop}
use Rattle.listener.specs.Messages.{arrival}
use Rattle.replay.specs.Lines.{line_of, fed_with}
use Rattle.replay.proofs.replaying_thread.give_all.Given as goal

-- those before the index were given the packet
abbrev pub invariant-loop-k : goal.invariant-loop-k
invariant-loop-k l =
    let ls = map line_of l.fn.slots.items in
    map line_of l.slot-items ≡ map (fed_with l.placed.n (arrival l.placed.capture l.placed.place l.placed.packet.now)) (take l.k ls) ++ drop l.k ls
