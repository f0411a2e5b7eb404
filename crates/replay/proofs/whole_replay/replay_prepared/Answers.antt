use Rattle.std.proofs.Common.{arith}
use Rattle.std.proofs.lemmas.Slice.Zip.{AllZip-long}
use Rattle.replay.specs.Runs.{IsRunningOf}
use Rattle.replay.proofs.Chained.{all-told, still-paired}
use Rattle.replay.proofs.whole_replay.replay_prepared.Goals as goal

pub in_threads-requires-clause-room : goal.in_threads-requires-clause-room
in_threads-requires-clause-room g c κs within =
    let room = c.in_ok-reports.ensures.enough.1 in
    let many = c.len-2.ensures in (c.in_ok-reports.ensures.empty.1, omega (arith, room, many))

pub report_all-requires-clause-pairs : goal.report_all-requires-clause-pairs
report_all-requires-clause-pairs g c =
    still-paired c.args.all.links.items c.args.all.prepared.items c.in_ok-running.running.items c.requires.links c.in_ok-running.ensures

pub report_all-requires-clause-room : goal.report_all-requires-clause-room
report_all-requires-clause-room g c =
    let running = AllZip-long IsRunningOf _ _ c.in_ok-running.ensures in
    let room = c.in_ok-reports.ensures.enough.0 in
    let many = c.len.ensures in (c.in_ok-reports.ensures.empty.0, omega (arith, running, room, many))

pub returns : goal.returns
returns g c = λ interfaces prepared.
    all-told g.S.Source.left g.S.Source.failures g.W.Sink.taken g.W.Sink.failures interfaces c.args.all.prepared.items
    c.in_ok-running.running.items c.in-Some.reports.items prepared c.in_ok-running.ensures c.in-Some.ensures
