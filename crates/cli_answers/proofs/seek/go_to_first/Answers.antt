use Rattle.std.proofs.Common.{◌≡◌, Ok, ◌++◌, ◌∷◌, [], ◌∙◌, ap, false, refl, subst, sym, true}
use Rattle.std.proofs.KnownBytes.{Consumes-nil, Consumes-trans}
use Rattle.savefile.specs.declared.packet.Packet.{Packet}
use Rattle.cli_answers.proofs.Reading.{all-more, still-works}
use Rattle.cli_answers.proofs.seek.go_to_first.Goals as goal

pub loop-reader-init : goal.loop-reader-init
loop-reader-init g c = record {
  gives = λ from header given. ([], tt, given);
  taken = ([], Consumes-nil _);
  source_works = refl;
}

pub loop-reader-preserved : goal.loop-reader-preserved
loop-reader-preserved g c = record {
  gives = λ from header given.
      let (packets, none, gives) = c.loop-reader.invariant.gives from header given in
      let p = c.advance.new.self.lent in
      let passed = g.T.PacketTest.passed c.args.test.now in (
        packets ++ p ∷ [],
        all-more (λ (q : Packet). passed q ≡ false) packets p none (subst (λ (q : Packet). passed q ≡ false) c.packet.ensures (sym c.passes.ensures ∙ c.if-passes.false)),
        c.in-Ok-true.ensures.packet from header packets gives (ap Ok c.in-Ok-true.field-0-test),
      );
  taken =
      let (before, took) = c.loop-reader.invariant.taken in
      let (further, goes) = c.in-Ok-true.ensures.taken in
      (before ++ further, Consumes-trans _ _ _ before further took goes);
  source_works = still-works _ _ _ c.advance.result c.advance.ensures.device.1 (c.in-Ok-true.is ∙ ap Ok c.in-Ok-true.field-0-test) c.loop-reader.invariant.source_works;
}

pub returns-then-passes-clause-goes : goal.returns-then-passes-clause-goes
returns-then-passes-clause-goes g c = λ from header given.
    let (packets, none, gives) = c.loop-reader.invariant.gives from header given in
    let passed = g.T.PacketTest.passed c.args.test.now in (
      packets,
      c.advance.new.self.lent,
      none,
      subst (λ (q : Packet). passed q ≡ true) c.packet.ensures (sym c.passes.ensures ∙ c.if-passes.true),
      c.in-Ok-true.ensures.packet from header packets gives (ap Ok c.in-Ok-true.field-0-test),
    )

pub returns-then-passes-clause-taken : goal.returns-then-passes-clause-taken
returns-then-passes-clause-taken g c =
    let (before, took) = c.loop-reader.invariant.taken in
    let (further, goes) = c.in-Ok-true.ensures.taken in
    (before ++ further, Consumes-trans _ _ _ before further took goes)

pub returns-in-Ok-false-clause-goes : goal.returns-in-Ok-false-clause-goes
returns-in-Ok-false-clause-goes g c = λ from header given.
    let (packets, none, gives) = c.loop-reader.invariant.gives from header given in
    (packets, none, c.in-Ok-false.ensures.end from header packets gives (ap Ok c.in-Ok-false.field-0-test))

pub returns-in-Ok-false-clause-taken : goal.returns-in-Ok-false-clause-taken
returns-in-Ok-false-clause-taken g c =
    let (before, took) = c.loop-reader.invariant.taken in
    let (further, goes) = c.in-Ok-false.ensures.taken in
    (before ++ further, Consumes-trans _ _ _ before further took goes)

pub returns-in-Err-clause-goes : goal.returns-in-Err-clause-goes
returns-in-Err-clause-goes g c = λ from header given.
    let (packets, none, gives) = c.loop-reader.invariant.gives from header given in
    (packets, none, c.in-Err.ensures.cause from header packets gives)

pub returns-in-Err-clause-taken : goal.returns-in-Err-clause-taken
returns-in-Err-clause-taken g c =
    let (before, took) = c.loop-reader.invariant.taken in
    let (further, goes) = c.in-Err.ensures.taken in
    (before ++ further, Consumes-trans _ _ _ before further took goes)
