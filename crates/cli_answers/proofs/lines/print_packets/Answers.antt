use Rattle.std.proofs.Common.{arith, Ok, ◌∙◌, ◌++◌, ◌∷◌, [], inl, inr, sym, ap, subst, refl}
use Rattle.std.proofs.KnownBytes.{Consumes-nil, Consumes-trans}
use Rattle.savefile.specs.declared.packet.Packet.{Packet}
use Rattle.savefile.specs.Reader.{HasGiven, WasBegun}
use Rattle.cli_answers.proofs.Reading.{still-works, works-on, gave-more}
use Rattle.cli_answers.proofs.Totals.{broken-off, read-part, read-whole}
use Rattle.cli_answers.proofs.lines.print_packets.Goals as goal

pub loop-reader-init : goal.loop-reader-init
loop-reader-init g c = record {
  prints = λ from header given. (
    [],
    given,
    subst (λ none. g.P.PacketPrinter.printed c.args.printer.now [] (g.O.Write.contents c.args.out.now) (g.O.Write.contents c.args.out.now) none) (sym c.none-counts.ensures.is)
        (g.met.P.PacketPrinter.starts c.args.printer.now (g.O.Write.contents c.args.out.now)),
  );
  fit = c.none-counts.ensures.fit _;
  taken = ([], Consumes-nil _);
  source_works = refl;
}

pub loop-reader-preserved : goal.loop-reader-preserved
loop-reader-preserved g c = record {
  prints = λ from header given.
      let (packets, gives, so_far) = c.loop-reader.invariant.prints from header given in
      let kept = g.met.P.PacketPrinter.stays c.args.printer.now packets _ _ _ _ so_far c.advance_flushed.ensures.printed in (
        packets ++ c.packet.result ∷ [],
        subst (λ (q : Packet). HasGiven g.R.Source.left from header (packets ++ q ∷ []) c.advance_flushed.new.reader) (sym c.packet.ensures)
            (c.in-Ok-true.ensures.packet from header packets gives (ap Ok c.in-Ok-true.field-0-test)),
        c.in-Ok.ensures.prints packets _ kept,
      );
  fit = subst (λ n. g.C.PacketCounts.fit c.print.new.counts n) (sym (gave-more _ _ _ c.advance_flushed.ensures.leaves (c.in-Ok-true.is ∙ ap Ok c.in-Ok-true.field-0-test)).0) (c.in-Ok.ensures.fit _ c.loop-reader.invariant.fit);
  taken =
      let (before, took) = c.loop-reader.invariant.taken in
      let (further, goes) = c.in-Ok-true.ensures.taken in
      (before ++ further, Consumes-trans _ _ _ before further took goes);
  source_works = still-works _ _ _ c.advance_flushed.result c.advance_flushed.ensures.device.1 (c.in-Ok-true.is ∙ ap Ok c.in-Ok-true.field-0-test) c.loop-reader.invariant.source_works;
}

pub print-requires : goal.print-requires
print-requires g c =
    let (one, fits) = gave-more _ _ _ c.advance_flushed.ensures.leaves (c.in-Ok-true.is ∙ ap Ok c.in-Ok-true.field-0-test) in
    (c.loop-reader.reader.given, c.loop-reader.invariant.fit, omega (arith, one, fits))

pub returns-in-Err-print-clause-source_broke : goal.returns-in-Err-print-clause-source_broke
returns-in-Err-print-clause-source_broke g c =
    works-on _ _ _ _ c.of_reader.ensures.read
    (still-works _ _ _ c.advance_flushed.result c.advance_flushed.ensures.device.1 (c.in-Ok-true.is ∙ ap Ok c.in-Ok-true.field-0-test) c.loop-reader.invariant.source_works)

pub returns-in-Err-print-clause-taken : goal.returns-in-Err-print-clause-taken
returns-in-Err-print-clause-taken g c =
    let (before, took) = c.loop-reader.invariant.taken in
    let (further, goes) = c.in-Ok-true.ensures.taken in
    (before ++ further, Consumes-trans _ _ _ before further took goes)

pub returns-in-Ok-false-clause-taken : goal.returns-in-Ok-false-clause-taken
returns-in-Ok-false-clause-taken g c =
    let (before, took) = c.loop-reader.invariant.taken in
    let (further, goes) = c.in-Ok-false.ensures.taken in
    (before ++ further, Consumes-trans _ _ _ before further took goes)

pub returns-in-Err-clause-taken : goal.returns-in-Err-clause-taken
returns-in-Err-clause-taken g c =
    let (before, took) = c.loop-reader.invariant.taken in
    let (further, goes) = c.in-Err.ensures.taken in
    (before ++ further, Consumes-trans _ _ _ before further took goes)

pub returns-in-Err-print-clause-prints : goal.returns-in-Err-print-clause-prints
returns-in-Err-print-clause-prints g c = λ from header given.
    let P = g.P.PacketPrinter in
    let (packets, gives, so_far) = c.loop-reader.invariant.prints from header given in
    let kept = g.met.P.PacketPrinter.stays c.args.printer.now packets _ _ _ _ so_far c.advance_flushed.ensures.printed in
    let before = c.in-Ok-true.ensures.so_far from header packets gives in
    let further = c.given_so_far.ensures from header (packets ++ c.advance_flushed.new.reader.lent ∷ []) (c.in-Ok-true.ensures.packet from header packets gives (ap Ok c.in-Ok-true.field-0-test)) in
    elim (c.in-Err-print.ensures.breaks packets _ kept) [
      | inl part ↦ broken-off (P.printed c.args.printer.now) (P.begun c.args.printer.now) from _ header _ _ _ _ _ _ _ packets c.of_reader.ensures.read c.of_reader.ensures.printed before part
      | inr part ↦ broken-off (P.printed c.args.printer.now) (P.begun c.args.printer.now) from _ header _ _ _ _ _ _ _ (packets ++ c.packet.result ∷ []) c.of_reader.ensures.read c.of_reader.ensures.printed
          (subst (λ (q : Packet). WasBegun from header (packets ++ q ∷ [])) (sym c.packet.ensures) further) part
    ]

pub returns-in-Ok-false-clause-prints : goal.returns-in-Ok-false-clause-prints
returns-in-Ok-false-clause-prints g c = λ from header given.
    let P = g.P.PacketPrinter in
    let (packets, gives, so_far) = c.loop-reader.invariant.prints from header given in
    let kept = g.met.P.PacketPrinter.stays c.args.printer.now packets _ _ _ _ so_far c.advance_flushed.ensures.printed in
    let told = c.of_reader-in-Ok-false.ensures in
    read-whole (P.printed c.args.printer.now) (P.begun c.args.printer.now) from _ header _ _ _ _ _ _ _ packets told.read told.printed
    (subst (λ k. P.printed c.args.printer.now packets (g.O.Write.contents c.args.out.now) (g.O.Write.contents c.advance_flushed.new.out) k) (sym told.counts) kept) (c.in-Ok-false.ensures.end from header packets gives (ap Ok c.in-Ok-false.field-0-test))

pub returns-in-Err-clause-prints : goal.returns-in-Err-clause-prints
returns-in-Err-clause-prints g c = λ from header given.
    let P = g.P.PacketPrinter in
    let (packets, gives, so_far) = c.loop-reader.invariant.prints from header given in
    let kept = g.met.P.PacketPrinter.stays c.args.printer.now packets _ _ _ _ so_far c.advance_flushed.ensures.printed in
    let told = c.of_reader-in-Err.ensures in
    read-part (P.printed c.args.printer.now) (P.begun c.args.printer.now) from _ header _ _ _ _ _ _ _ packets told.read told.printed
    (subst (λ k. P.printed c.args.printer.now packets (g.O.Write.contents c.args.out.now) (g.O.Write.contents c.advance_flushed.new.out) k) (sym told.counts) kept)
    (c.in-Err.ensures.so_far from header packets gives) (c.in-Err.ensures.cause from header packets gives)
