use Rattle.std.proofs.Common.{[], map, length, ap, ◌∙◌, arith}
use Rattle.std.proofs.lemmas.List.{length-map}
use Rattle.replay.specs.Lines.{ended_all, fed_all, line_of}
use Rattle.replay.proofs.Fresh.{fresh-fed}
use Rattle.replay.proofs.Lists.{empty}
use Rattle.replay.proofs.replaying_thread.play_out.Goals as goal

pub give_captures-sources-requires-clause-so_far : goal.give_captures-sources-requires-clause-so_far
give_captures-sources-requires-clause-so_far g c =
    let starts = map line_of c.args.play.player.slots.items in
    (starts, [], (c.args.play.fresh.0, fresh-fed starts c.args.play.fresh.1, c.args.play.pairs))

pub end_all-ends-requires : goal.end_all-ends-requires
end_all-ends-requires g c =
    let starts = map line_of c.args.play.player.slots.items in
    let (playlist, timely, arrived, plays) = c.give_captures-sources.ensures starts (c.args.play.fresh.0, fresh-fed starts c.args.play.fresh.1, c.args.play.pairs) in
    let same = ap length arrived.1 in
    let a = length-map c.give_captures-sources.new.self.slots.items line_of in
    let b = length-map starts (fed_all playlist) in
    let d = length-map c.args.play.player.slots.items line_of in
    let room = c.args.play.ends_fit.1 in record { pairs = arrived.2; room = (empty _ c.args.play.ends_fit.0, omega (arith, same, a, b, d, room)) }

pub returns : goal.returns
returns g c =
    let starts = map line_of c.args.play.player.slots.items in
    let (playlist, timely, arrived, plays) = c.give_captures-sources.ensures starts (c.args.play.fresh.0, fresh-fed starts c.args.play.fresh.1, c.args.play.pairs) in record {
      playlist = playlist;
      timely = timely;
      plays = plays;
      ends = c.end_all-ends.ensures ∙ ap ended_all arrived.1;
    }
