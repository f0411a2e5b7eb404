use Rattle.std.proofs.Common.{◌≡◌, ◌<◌, ◌≢◌, inr, ℕ, [], ◌∷◌, ◌++◌, length, sym, subst, arith}
use Rattle.bpftap_c.specs.declared.captures.BpftapReader.{BpftapReader}
use Rattle.bpftap_c.specs.Captures.{GivesNext}
use Rattle.bpftap_c.specs.Spans.{stopped, GivesAll}
use Rattle.bpftap_c.proofs.SpanReading.{further, lengthened, spanned, stays}
use Rattle.bpftap_c.proofs.spans.bpftap_spans.Goals as goal

pub returns-then-record-ne0 : goal.returns-then-record-ne0
returns-then-record-ne0 c =
    let memory = c.args.memory.now in
    let (given, all, size, spans) = c.loop-place.invariant in
    let last = c.bpftap_next-record.result in
    let new = c.bpftap_next-record.new.reader in
    let gives = c.bpftap_next-record.ensures in
    let differ : last.fault ≢ 0 = c.if-record-ne0.true in
    let same = stays memory c.loop-place.reader new last gives differ in
    let short : length given < length c.args.spans.now = omega (arith, size, c.loop-place-test.true, c.loop-place.auto.place-end, c.loop-place.auto.spans) in (
      given,
      subst (λ (r : BpftapReader). GivesAll memory given c.args.reader.now r) (sym same) all,
      spans,
      inr (
        short,
        (
          last,
          differ,
          subst (λ (r : BpftapReader). GivesNext memory r new last) (sym same) gives,
          subst (λ (n : ℕ). c.stopped.result ≡ stopped n last) (sym size) c.stopped.ensures,
        ),
      ),
    )

pub loop-place-preserved : goal.loop-place-preserved
loop-place-preserved c =
    let (given, all, size, spans) = c.loop-place.invariant in
    let last = c.bpftap_next-record.result in
    let fine : last.fault ≡ 0 = c.if-record-ne0.false in
    let short : length given < length c.args.spans.now = omega (arith, size, c.loop-place-test.true, c.loop-place.auto.place-end, c.loop-place.auto.spans) in (
      given ++ last ∷ [],
      further c.args.memory.now given c.args.reader.now c.loop-place.reader c.bpftap_next-record.new.reader last all fine c.bpftap_next-record.ensures,
      omega (arith, lengthened given last, size),
      rw (spans, ← size, c.span_of.ensures) (spanned given c.args.spans.now last short),
    )
