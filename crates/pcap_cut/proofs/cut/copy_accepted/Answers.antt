use Rattle.std.proofs.Common.{rules, ◌≡◌, arith, ◌∙◌, ◌++◌, ◌∷◌, [], inl, inr, sym, ap, subst, refl, List, Err}
use Rattle.std.proofs.KnownBytes.{Consumes-nil, Consumes-trans}
use Rattle.savefile.specs.declared.packet.Packet.{Packet}
use Rattle.savefile.specs.Writer.{HasWritten}
use Rattle.pcap_cut.specs.Copying.{Wrote}
use Rattle.pcap_cut.specs.Cut.{accepts, accepted}
use Rattle.pcap_cut.specs.Outcome.{tallied}
use Rattle.pcap_cut.proofs.Accepted.{accepted-append, accepted-nil, tally-more}
use Rattle.pcap_cut.proofs.Writing.{same-unless-different}
use Rattle.pcap_cut.proofs.cut.copy_accepted.Goals as goal

pub loop-reader-init : goal.loop-reader-init
loop-reader-init g c = record {
  copies = λ from header to order unit head given written. (
    [],
    given,
    subst (λ (ps : List Packet). HasWritten g.W.Sink.taken to order unit head ps c.args.writer.now) (sym (accepted-nil c.args.program.now c.args.snap)) written,
    record { read = refl; written = refl },
  );
  read = omega arith;
  written = omega arith;
  taken = ([], Consumes-nil _);
  source_works = refl;
  sink_works = refl;
  named = refl;
}

pub loop-reader-preserved : goal.loop-reader-preserved
loop-reader-preserved g c = record {
  copies = λ from header to order unit head given written.
      let program = c.args.program.now in
      let (packets, gives, wrote, counted) = c.loop-reader.invariant.copies from header to order unit head given written in
      let p = c.advance_flushed.new.reader.lent in (
        packets ++ p ∷ [],
        c.in-Ok-true.ensures.advances.packet from header packets gives (cc),
        subst (λ (ps : List Packet). HasWritten g.W.Sink.taken to order unit head ps c.put_accepted.new.writer)
            (ap (λ (q : Packet). accepted program c.args.snap packets ++ accepted program c.args.snap (q ∷ [])) c.packet.ensures ∙ sym (accepted-append program c.args.snap packets (p ∷ [])))
            (c.in-Ok.ensures.writes to order unit head (accepted program c.args.snap packets) (c.advance_flushed.ensures.written to order unit head (accepted program c.args.snap packets) wrote)),
        tally-more program packets p c.loop-reader.tally c.put_accepted.new.tally
            (subst (λ (q : Packet). c.put_accepted.new.tally ≡ tallied (accepts program q) c.loop-reader.tally) c.packet.ensures c.put_accepted.ensures.counts) counted,
      );
  read = search rules;
  written = search rules;
  taken =
      let (before, took) = c.loop-reader.invariant.taken in
      let (more, goes) = c.in-Ok-true.ensures.advances.taken in
      (before ++ more, Consumes-trans _ _ _ before more took goes);
  source_works = same-unless-different _ _ (λ different. let broke = c.in-Ok-true.ensures.advances.device.1 different in cc) ∙ c.loop-reader.invariant.source_works;
  sink_works = same-unless-different _ _ (λ different. let broke = c.in-Ok.ensures.sink_broke.1 different in cc) ∙ c.advance_flushed.ensures.sink_works ∙ c.loop-reader.invariant.sink_works;
  named = c.in-Ok.ensures.named ∙ c.advance_flushed.ensures.named ∙ c.loop-reader.invariant.named;
}

pub returns-in-Err-put_accepted-clause-copies : goal.returns-in-Err-put_accepted-clause-copies
returns-in-Err-put_accepted-clause-copies g c = λ from header to order unit head given written.
    let program = c.args.program.now in
    let (packets, gives, wrote, counted) = c.loop-reader.invariant.copies from header to order unit head given written in
    let p = c.advance_flushed.new.reader.lent in (
      packets ++ p ∷ [],
      c.given_so_far.ensures from header (packets ++ p ∷ []) (c.in-Ok-true.ensures.advances.packet from header packets gives (cc)),
      subst (λ (ps : List Packet). Wrote g.W.Sink.taken to order unit head ps (Err c.in-Err-put_accepted.fault) c.put_accepted.new.writer)
          (ap (λ (q : Packet). accepted program c.args.snap packets ++ accepted program c.args.snap (q ∷ [])) c.packet.ensures ∙ sym (accepted-append program c.args.snap packets (p ∷ [])))
          (c.in-Err-put_accepted.ensures.writes to order unit head (accepted program c.args.snap packets) (c.advance_flushed.ensures.written to order unit head (accepted program c.args.snap packets) wrote)),
    )

pub returns-in-Ok-false-clause-copies : goal.returns-in-Ok-false-clause-copies
returns-in-Ok-false-clause-copies g c = λ from header to order unit head given written.
    let program = c.args.program.now in
    let (packets, gives, wrote, counted) = c.loop-reader.invariant.copies from header to order unit head given written in
    (packets, c.in-Ok-false.ensures.advances.end from header packets gives (cc), c.advance_flushed.ensures.written to order unit head (accepted program c.args.snap packets) wrote, counted)

pub returns-in-Err-clause-copies : goal.returns-in-Err-clause-copies
returns-in-Err-clause-copies g c = λ from header to order unit head given written.
    let program = c.args.program.now in
    let (packets, gives, wrote, counted) = c.loop-reader.invariant.copies from header to order unit head given written in
    let told = c.in-Err.ensures.advances in (
      packets,
      c.advance_flushed.ensures.written to order unit head (accepted program c.args.snap packets) wrote,
      counted,
      elim (told.cause from header packets gives) [
        | inl read ↦ inl read
        | inr other ↦ inr (told.so_far from header packets gives, other)
      ],
    )

pub returns-in-Err-put_accepted-clause-taken : goal.returns-in-Err-put_accepted-clause-taken
returns-in-Err-put_accepted-clause-taken g c =
    let (before, took) = c.loop-reader.invariant.taken in
    let (more, goes) = c.in-Ok-true.ensures.advances.taken in
    (before ++ more, Consumes-trans _ _ _ before more took goes)

pub returns-in-Ok-false-clause-taken : goal.returns-in-Ok-false-clause-taken
returns-in-Ok-false-clause-taken g c =
    let (before, took) = c.loop-reader.invariant.taken in
    let (more, goes) = c.in-Ok-false.ensures.advances.taken in
    (before ++ more, Consumes-trans _ _ _ before more took goes)

pub returns-in-Err-clause-taken : goal.returns-in-Err-clause-taken
returns-in-Err-clause-taken g c =
    let (before, took) = c.loop-reader.invariant.taken in
    let (more, goes) = c.in-Err.ensures.advances.taken in
    (before ++ more, Consumes-trans _ _ _ before more took goes)
