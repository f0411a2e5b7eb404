use Rattle.std.proofs.Common.{rules, refl, arith}
use Rattle.cli_split.proofs.Standings.{stands-failed, stands-more}
use Rattle.cli_split.proofs.part.give.Goals as goal

pub put_accepted-outlet-requires-clause-room : goal.put_accepted-outlet-requires-clause-room
put_accepted-outlet-requires-clause-room g c =
    let (order, unit, packets, part, stands, few) = c.requires.so_far in
    omega (arith, stands.read, few)

pub put_accepted-outlet-requires-clause-fewer : goal.put_accepted-outlet-requires-clause-fewer
put_accepted-outlet-requires-clause-fewer g c =
    let (order, unit, packets, part, stands, few) = c.requires.so_far in
    stands.written

pub returns-then-is_err : goal.returns-then-is_err
returns-then-is_err g c = λ order unit packets part stands.
    stands-failed g.W.Sink.taken g.W.Sink.name g.W.Sink.failures order unit packets part c.args.outlet.now c.args.packet.now c.growing_text.ensures.begins (search rules) stands

pub returns : goal.returns
returns g c = λ order unit packets part stands.
    let put = c.put_accepted-outlet.ensures in
    stands-more g.W.Sink.taken g.W.Sink.name g.W.Sink.failures order unit packets part c.args.outlet.now _ c.args.packet.now (search rules) refl refl put.counts put.writes put.sink_broke put.named stands
