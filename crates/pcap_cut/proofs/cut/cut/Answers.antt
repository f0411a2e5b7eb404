use Rattle.std.proofs.Common.{◌≡◌, ◌++◌, sym, subst}
use Rattle.std.proofs.KnownBytes.{Consumes-trans}
use Rattle.std.specs.Io.KnownBytes.{Consumes}
use Rattle.savefile.specs.Snapshot.{effective_snaplen}
use Rattle.pcap_cut.specs.Copying.{Copied}
use Rattle.pcap_cut.proofs.Outcomes.{copied-outcome, unread-outcome}
use Rattle.pcap_cut.proofs.cut.cut.Goals as goal

pub returns-in-Err-clause-cuts : goal.returns-in-Err-clause-cuts
returns-in-Err-clause-cuts g c =
    let (text, told, given, gave, sent, took, outcome) =
    unread-outcome g.R.Source.left g.W.Sink.taken c.args.from c.in-Err.source c.args.to c.args.program.now c.args.header.snap c.args.header.order c.args.header.unit _ c.in-Err.fault
    c.in-Err.ensures.refused c.in-Err.ensures.unread c.in-Err.ensures.taken in
    record { text = text; told = told; given = given; gave = gave; sent = sent; took = took; outcome = outcome }

pub returns-clause-cuts : goal.returns-clause-cuts
returns-clause-cuts g c =
    let left = g.R.Source.left in
    let reader = c.in-Ok.reader in
    let back = c.close.result in
    let is : back ≡ c.write_accepted-ended.new.reader.source = c.close.ensures in
    let (writer, is_closed, counts, copied) = c.write_accepted-ended.ensures.writes (left c.args.from) reader.header c.in-Ok.ensures.ok in
    let (first, opened) = c.in-Ok.ensures.taken in
    let (further, went) = c.write_accepted-ended.ensures.taken in
    let (text, told, given, gave, sent, took, outcome) =
    copied-outcome left g.W.Sink.taken c.args.from back reader.header c.args.to c.write_accepted-ended.result.sink c.write_accepted-ended.result.sent c.args.program.now c.args.header.snap c.args.header.order c.args.header.unit c.write_accepted-ended.result.tally c.write_accepted-ended.result.end writer
    c.growing_text.ensures.begins is_closed counts
    (first ++ further, subst (λ (s : g.row.R.Denot). Consumes (left c.args.from) (left s) (first ++ further)) (sym is) (Consumes-trans _ _ _ first further opened went))
    (subst (λ (s : g.row.R.Denot). Copied g.W.Sink.taken (left c.args.from) (left s) reader.header (g.W.Sink.taken c.args.to) c.args.header.order c.args.header.unit (effective_snaplen c.args.header.snap) c.args.program.now (effective_snaplen c.args.header.snap) c.write_accepted-ended.result.tally c.write_accepted-ended.result.end writer) (sym is) copied) in
    record { text = text; told = told; given = given; gave = gave; sent = sent; took = took; outcome = outcome }
