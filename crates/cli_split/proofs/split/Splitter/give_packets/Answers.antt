use Rattle.std.proofs.Common.{◌≡◌, [], ◌∷◌, ◌++◌, List, ap, sym, refl, ◌∙◌, arith, subst, Ok, Err, inl, inr, length-append}
use Rattle.std.proofs.lemmas.List.{append-nil, append_assoc}
use Rattle.std.proofs.KnownBytes.{Consumes-nil}
use Rattle.std.specs.List.{AllZip}
use Rattle.savefile.specs.declared.fault.Fault.TheVariants.{Device}
use Rattle.savefile.specs.declared.packet.Packet.{Packet}
use Rattle.pcap_cut.proofs.Writing.{same-unless-different}
use Rattle.cli_split.specs.Standing.{HasSplit, HasTaken}
use Rattle.cli_split.proofs.Readings.{takes-more}
use Rattle.cli_split.proofs.split.Splitter.give_packets.Goals as goal

pub loop-self-init : goal.loop-self-init
loop-self-init g c = record {
  gives = λ start header h. (
    [],
    h,
    λ order unit before parts has. subst (λ ps. HasSplit g.W.Sink.taken g.W.Sink.name g.W.Sink.failures order unit ps parts c.args.self.now) (sym (append-nil before)) has,
  );
  taken = ([], Consumes-nil _);
  works = refl;
}

pub give_all-requires-clause-so_far : goal.give_all-requires-clause-so_far
give_all-requires-clause-so_far g c =
    let (start, header, h) = c.requires.begun in
    let (order, unit, before, parts, has) = c.requires.so_far in
    let (packets, given, goes) = c.loop-self.invariant.gives start header h in
    let now = c.advance_flushed.ensures.written order unit (before ++ packets) parts (goes order unit before parts has) in
    (order, unit, before ++ packets, parts, now.2, omega (arith, now.0, now.1, c.if-self.false, c.advance_flushed.ensures.read))

pub loop-self-preserved : goal.loop-self-preserved
loop-self-preserved g c =
    let p = c.advance_flushed.new.reader.lent in
    let is = c.in-Ok-true.is ∙ ap Ok c.in-Ok-true.field-0-test in
    record {
      gives = λ start header h.
          let (packets, given, goes) = c.loop-self.invariant.gives start header h in (
            packets ++ p ∷ [],
            c.advance_flushed.ensures.advances.packet start header packets given is,
            λ order unit before parts has.
                let now = c.advance_flushed.ensures.written order unit (before ++ packets) parts (goes order unit before parts has) in (
                  omega (arith, now.0, length-append before packets, length-append before (packets ++ p ∷ []), length-append packets (p ∷ [])),
                  omega (arith, now.1, c.if-self.false, c.advance_flushed.ensures.read),
                  subst (λ (ps : List Packet). AllZip (HasTaken g.W.Sink.taken g.W.Sink.name g.W.Sink.failures order unit ps) parts c.give_all.new.outlets.items)
                      (ap (λ (q : Packet). (before ++ packets) ++ q ∷ []) c.packet.ensures ∙ append_assoc before packets (p ∷ []))
                      (c.give_all.ensures order unit (before ++ packets) parts now.2),
                ),
          );
      taken = takes-more _ _ _ c.loop-self.invariant.taken c.advance_flushed.ensures.advances.taken;
      works = same-unless-different (g.R.Source.failures c.advance_flushed.new.reader.source) (g.R.Source.failures c.loop-self.reader.source)
          (λ differs. let bad = sym is ∙ c.advance_flushed.ensures.advances.device.1 differs in cc)
          ∙ c.loop-self.invariant.works;
    }

pub returns-then-self-clause-gives : goal.returns-then-self-clause-gives
returns-then-self-clause-gives g c = λ start header h.
    let (packets, given, goes) = c.loop-self.invariant.gives start header h in
    (packets, inr (c.given_so_far.ensures start header packets given, inr (refl, c.if-self.true)), goes)

pub returns-in-Ok-false-clause-gives : goal.returns-in-Ok-false-clause-gives
returns-in-Ok-false-clause-gives g c = λ start header h.
    let (packets, given, goes) = c.loop-self.invariant.gives start header h in
    (packets, c.advance_flushed.ensures.advances.end start header packets given (c.in-Ok-false.is ∙ ap Ok c.in-Ok-false.field-0-test), λ order unit before parts has. c.advance_flushed.ensures.written order unit (before ++ packets) parts (goes order unit before parts has))

pub returns-in-Err-clause-gives : goal.returns-in-Err-clause-gives
returns-in-Err-clause-gives g c = λ start header h.
    let (packets, given, goes) = c.loop-self.invariant.gives start header h in
    let (order, unit, before, parts, has) = c.requires.so_far in
    let now = goes order unit before parts has in (
      packets,
      elim (c.in-Err.ensures.advances.cause start header packets given) [
        | inl read ↦ inl read
        | inr (inl device) ↦ inr (c.advance_flushed.ensures.advances.so_far start header packets given, inl device)
        | inr (inr full) ↦ absurd (omega (arith, now.0, now.1, full.1, length-append before packets, c.if-self.false))
      ],
      λ order unit before parts has. c.advance_flushed.ensures.written order unit (before ++ packets) parts (goes order unit before parts has),
    )

pub returns-then-self-clause-taken : goal.returns-then-self-clause-taken
returns-then-self-clause-taken g c = c.loop-self.invariant.taken

pub returns-in-Ok-false-clause-taken : goal.returns-in-Ok-false-clause-taken
returns-in-Ok-false-clause-taken g c = takes-more _ _ _ c.loop-self.invariant.taken c.advance_flushed.ensures.advances.taken

pub returns-in-Err-clause-taken : goal.returns-in-Err-clause-taken
returns-in-Err-clause-taken g c = takes-more _ _ _ c.loop-self.invariant.taken c.advance_flushed.ensures.advances.taken

pub returns-then-self-clause-broke : goal.returns-then-self-clause-broke
returns-then-self-clause-broke g c = (λ e. absurd (cc), λ differs. absurd (differs c.loop-self.invariant.works))

pub returns-in-Ok-false-clause-broke : goal.returns-in-Ok-false-clause-broke
returns-in-Ok-false-clause-broke g c = (
  λ e. absurd (cc),
  λ differs.
      let bad = sym (c.in-Ok-false.is ∙ ap Ok c.in-Ok-false.field-0-test) ∙ c.advance_flushed.ensures.advances.device.1 (λ same. differs (same ∙ c.loop-self.invariant.works)) in absurd (cc),
)

pub returns-in-Err-clause-broke : goal.returns-in-Err-clause-broke
returns-in-Err-clause-broke g c = (
  λ e.
      let same : c.in-Err.fault ≡ Device = cc in
      let differs = c.advance_flushed.ensures.advances.device.0 (c.in-Err.is ∙ ap Err same) in (λ kept. differs (kept ∙ sym c.loop-self.invariant.works)),
  λ differs.
      let told = sym c.in-Err.is ∙ c.advance_flushed.ensures.advances.device.1 (λ kept. differs (kept ∙ c.loop-self.invariant.works)) in
      let same : c.in-Err.fault ≡ Device = cc in ap Err same,
)
