use Rattle.std.proofs.Common.{refl}
use Rattle.cli_split.proofs.Standings.{stands-begun}
use Rattle.cli_split.proofs.part.begin.Goals as goal

pub returns : goal.returns
returns g c =
    let w = c.open-writer.ensures in
    stands-begun g.W.Sink.taken g.W.Sink.name g.W.Sink.failures c.args.order c.args.unit c.args.part _ c.effective_snaplen-snap.result refl refl c.effective_snaplen-snap.ensures refl refl w.ok w.err w.only w.device w.named
