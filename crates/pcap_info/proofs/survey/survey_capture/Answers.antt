use Rattle.std.proofs.Common.{◌++◌, inl, inr, refl, sym, subst}
use Rattle.std.proofs.KnownBytes.{Consumes-trans}
use Rattle.std.specs.Io.KnownBytes.{Consumes}
use Rattle.pcap_info.specs.Survey.{ReadsTo}
use Rattle.pcap_info.proofs.Counting.{contents-none}
use Rattle.pcap_info.proofs.Opening.{unopened}
use Rattle.pcap_info.proofs.survey.survey_capture.Goals as goal

pub returns-in-Err-clause-surveys : goal.returns-in-Err-clause-surveys
returns-in-Err-clause-surveys g c =
    inl (
      c.in-Err.fault,
      refl,
      refl,
      unopened g.R.Source.left c.args.from c.in-Err.source c.in-Err.fault c.in-Err.ensures.refused c.in-Err.ensures.unread c.in-Err.ensures.taken,
      contents-none,
    )

pub returns-clause-surveys : goal.returns-clause-surveys
returns-clause-surveys g c =
    let left = g.R.Source.left in
    let header = c.in-Ok.reader.header in
    let (packets, reads, are) = c.count_all-read.ensures.counts (left c.args.from) header c.in-Ok.ensures.ok
    contents-none in
    inr (
      header,
      packets,
      (cc),
      subst (λ (s : g.row.R.Denot). ReadsTo (left c.args.from) (left s) header packets c.count_all-read.result) (sym c.close.ensures) reads,
      are,
    )

pub returns-clause-gave : goal.returns-clause-gave
returns-clause-gave g c =
    let left = g.R.Source.left in
    let (first, opened) = c.in-Ok.ensures.taken in
    let (further, went) = c.count_all-read.ensures.taken in
    (first ++ further, subst (λ (s : g.row.R.Denot). Consumes (left c.args.from) (left s) (first ++ further)) (sym c.close.ensures) (Consumes-trans _ _ _ first further opened went))
