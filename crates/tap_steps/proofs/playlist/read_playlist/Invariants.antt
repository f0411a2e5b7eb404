use Rattle.std.proofs.Common.{map, take}
use Rattle.tap_steps.specs.Playlist.{IsPlaylist, NoHeaderIsRefused}
use Rattle.tap_steps.specs.Watching.{AllPackets}
use Rattle.tap_steps.proofs.playlist.read_playlist.Given as goal

abbrev pub invariant-loop-n : goal.invariant-loop-n
invariant-loop-n l = record {
  so_far : IsPlaylist 0 (map (λ c. c.now) (take l.n l.captures)) l.playlist.arrivals.items l.playlist.record_fault;
  packets : AllPackets l.playlist.arrivals.items;
  stand : NoHeaderIsRefused (map (λ c. c.now) (take l.n l.captures));
}
