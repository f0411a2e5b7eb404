use Rattle.std.proofs.Common.{map, ap, ◌∙◌}
use Rattle.replay.specs.Lines.{ended_all, fed_all}
use Rattle.replay.proofs.Lists.{empty}
use Rattle.replay.proofs.reporting.report_one.Goals as goal

pub report_tasks-requires-clause-fed : goal.report_tasks-requires-clause-fed
report_tasks-requires-clause-fed g c =
    let played = c.in_ok-ends.ensures in
    (played.playlist, played.timely, played.ends ∙ ap (λ ls. ended_all (map (fed_all played.playlist) ls)) c.args.running.lines)

pub report_tasks-requires-clause-room : goal.report_tasks-requires-clause-room
report_tasks-requires-clause-room g c = (empty _ c.args.running.room.0, c.args.running.room.1)

pub returns : goal.returns
returns g c =
    let played = c.in_ok-ends.ensures in
    let told = c.in_ok-report_tasks.ensures in record {
      playlist = played.playlist;
      plays = played.plays;
      pairs = told.pairs;
      served = told.served played.playlist played.timely (played.ends ∙ ap (λ ls. ended_all (map (fed_all played.playlist) ls)) c.args.running.lines);
    }
