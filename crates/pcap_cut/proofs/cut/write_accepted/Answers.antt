use Rattle.std.proofs.Common.{[], sym, subst, List, Err}
use Rattle.std.proofs.KnownBytes.{Consumes-nil}
use Rattle.savefile.specs.declared.packet.Packet.{Packet}
use Rattle.pcap_cut.specs.Copying.{Wrote}
use Rattle.pcap_cut.proofs.Accepted.{accepted-nil}
use Rattle.pcap_cut.proofs.Writing.{not-opened, opened}
use Rattle.pcap_cut.proofs.cut.write_accepted.Goals as goal

pub returns-in-Err-clause-writes : goal.returns-in-Err-clause-writes
returns-in-Err-clause-writes g c = λ from header given.
    let snap = c.effective_snaplen-snap.result in
    rw (sym c.effective_snaplen-snap.ensures) (
      c.open-writer.result.0,
      c.close-sink.ensures.sink,
      c.close-sink.ensures.sent,
      (
        [],
        c.given_so_far.ensures from header [] given,
        subst (λ (ps : List Packet). Wrote g.W.Sink.taken (g.W.Sink.taken c.args.to) c.args.header.order c.args.header.unit snap ps (Err c.in-Err.fault) c.open-writer.result.0) (sym (accepted-nil c.args.program.now snap))
            (not-opened g.W.Sink.taken (g.W.Sink.taken c.args.to) c.args.header.order c.args.header.unit snap c.open-writer.result.1 c.in-Err.fault c.open-writer.result.0 c.in-Err.is c.open-writer.ensures.err c.open-writer.ensures.only),
      ),
    )

pub returns-clause-writes : goal.returns-clause-writes
returns-clause-writes g c = λ from header given.
    let snap = c.effective_snaplen-snap.result in
    rw (sym c.effective_snaplen-snap.ensures) (
      c.copy_accepted-end.new.writer,
      c.close-sink-2.ensures.sink,
      c.close-sink-2.ensures.sent,
      c.copy_accepted-end.ensures.copies from header (g.W.Sink.taken c.args.to) c.args.header.order c.args.header.unit snap given
          (opened c.open-writer.result.1 c.in_default.field-0 _ c.in_default.is c.open-writer.ensures.ok),
    )

pub returns-in-Err-clause-taken : goal.returns-in-Err-clause-taken
returns-in-Err-clause-taken g c = ([], Consumes-nil _)
