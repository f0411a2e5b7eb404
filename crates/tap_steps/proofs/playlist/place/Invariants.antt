use Rattle.std.proofs.Common.{◌≡◌, ◌++◌, length}
use Rattle.tap_steps.specs.Playlist.{placed}
use Rattle.tap_steps.specs.Watching.{AllPackets}
use Rattle.tap_steps.proofs.playlist.place.Given as goal

abbrev pub invariant-loop-packet : goal.invariant-loop-packet
invariant-loop-packet l = record {
  items : l.to.items ≡ l.fn.to.items ++ placed l.capture 0 l.yielded;
  number : l.place ≡ length l.yielded;
  packets : AllPackets l.fn.to.items → AllPackets l.to.items;
}
