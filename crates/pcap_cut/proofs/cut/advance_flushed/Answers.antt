use Rattle.pcap_cut.proofs.Writing.{flushed-goes-on}
use Rattle.pcap_cut.proofs.cut.advance_flushed.Goals as goal

pub returns-clause-written : goal.returns-clause-written
returns-clause-written g c = λ start order unit head packets written.
    flushed-goes-on g.W.Sink.taken start order unit head packets c.args.writer.now c.flush.new.self c.flush.ensures.same c.flush.ensures.bytes written
