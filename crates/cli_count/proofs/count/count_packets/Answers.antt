use Rattle.std.proofs.Common.{◌++◌, inl, inr, refl, sym, subst}
use Rattle.std.proofs.KnownBytes.{Consumes-trans}
use Rattle.std.specs.Io.KnownBytes.{Consumes}
use Rattle.cli_count.specs.Counting.{CountsTo}
use Rattle.pcap_info.proofs.Opening.{unopened}
use Rattle.cli_count.proofs.count.count_packets.Goals as goal

pub returns-in-Err-clause-counts : goal.returns-in-Err-clause-counts
returns-in-Err-clause-counts g c =
    inl (
      c.in-Err.fault,
      unopened g.R.Source.left c.args.from c.in-Err.source c.in-Err.fault c.in-Err.ensures.refused c.in-Err.ensures.unread c.in-Err.ensures.taken,
      refl,
      refl,
      record { packets = refl; yes = refl; no = refl; abort = refl; unseen = refl },
    )

pub returns-clause-counts : goal.returns-clause-counts
returns-clause-counts g c =
    let left = g.R.Source.left in
    let header = c.in-Ok.reader.header in
    inr (
      header,
      refl,
      subst (λ (s : g.row.R.Denot). CountsTo (left c.args.from) (left s) header c.args.filter.now c.args.is_measured c.count_all-taken.new.counts c.count_all-taken.result.taken c.count_all-taken.result.read)
          (sym c.close.ensures) (c.count_all-taken.ensures.counts (left c.args.from) header c.in-Ok.ensures.ok),
    )

pub returns-clause-gave : goal.returns-clause-gave
returns-clause-gave g c =
    let left = g.R.Source.left in
    let (first, opened) = c.in-Ok.ensures.taken in
    let (further, went) = c.count_all-taken.ensures.taken in
    (first ++ further, subst (λ (s : g.row.R.Denot). Consumes (left c.args.from) (left s) (first ++ further)) (sym c.close.ensures) (Consumes-trans _ _ _ first further opened went))
