use Rattle.std.proofs.Common.{◌≡◌, ◌∙◌, ◌++◌, ◌∷◌, [], ap, subst, sym, Ok, refl}
use Rattle.std.proofs.KnownBytes.{Consumes-nil, Consumes-trans}
use Rattle.savefile.specs.declared.packet.Packet.{Packet}
use Rattle.pcap_info.specs.declared.contents.Contents.{Contents}
use Rattle.pcap_info.specs.Contents.{IsContents, with_packet}
use Rattle.pcap_info.proofs.Counting.{contents-more}
use Rattle.pcap_info.proofs.Opening.{same-unless-different}
use Rattle.pcap_info.proofs.survey.count_all.Goals as goal

pub loop-reader-preserved : goal.loop-reader-preserved
loop-reader-preserved g c = record {
  counts = λ from header given none.
      let (packets, gives, are) = c.loop-reader.invariant.counts from header given none in
      let p = c.advance.new.self.lent in (
        packets ++ p ∷ [],
        c.in-Ok-true.ensures.packet from header packets gives (ap Ok c.in-Ok-true.field-0-test),
        subst (λ (n : Contents). IsContents (packets ++ p ∷ []) n) (sym (c.with.ensures ∙ ap (with_packet c.loop-reader.contents) c.packet.ensures))
            (contents-more packets p c.loop-reader.contents are),
      );
  header = c.in-Ok-true.ensures.header ∙ c.loop-reader.invariant.header;
  taken =
      let (before, took) = c.loop-reader.invariant.taken in
      let (more, goes) = c.in-Ok-true.ensures.taken in
      (before ++ more, Consumes-trans _ _ _ before more took goes);
  source_works = same-unless-different _ _ (λ different. let broke = c.in-Ok-true.ensures.device.1 different in cc) ∙ c.loop-reader.invariant.source_works;
}

pub returns-in-Ok-false-clause-counts : goal.returns-in-Ok-false-clause-counts
returns-in-Ok-false-clause-counts g c = λ from header given none.
    let (packets, gives, are) = c.loop-reader.invariant.counts from header given none in
    (packets, c.in-Ok-false.ensures.end from header packets gives (ap Ok c.in-Ok-false.field-0-test), are)

pub returns-in-Ok-false-clause-taken : goal.returns-in-Ok-false-clause-taken
returns-in-Ok-false-clause-taken g c =
    let (before, took) = c.loop-reader.invariant.taken in
    let (more, goes) = c.in-Ok-false.ensures.taken in
    (before ++ more, Consumes-trans _ _ _ before more took goes)

pub returns-in-Err-clause-counts : goal.returns-in-Err-clause-counts
returns-in-Err-clause-counts g c = λ from header given none.
    let (packets, gives, are) = c.loop-reader.invariant.counts from header given none in
    (packets, (c.in-Err.ensures.so_far from header packets gives, c.in-Err.ensures.cause from header packets gives), are)

pub returns-in-Err-clause-taken : goal.returns-in-Err-clause-taken
returns-in-Err-clause-taken g c =
    let (before, took) = c.loop-reader.invariant.taken in
    let (more, goes) = c.in-Err.ensures.taken in
    (before ++ more, Consumes-trans _ _ _ before more took goes)
