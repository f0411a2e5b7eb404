use Rattle.std.proofs.Common.{sym, subst, ap, ◌∙◌}
use Rattle.cli_split.specs.Reading.{ReadsOne}
use Rattle.cli_split.specs.Splitting.{passes_header}
use Rattle.cli_split.proofs.Readings.{end-passes, reads-opened}
use Rattle.cli_split.proofs.split.Splitter.give_opened.Goals as goal

pub give_packets-given-requires-clause-begun : goal.give_packets-given-requires-clause-begun
give_packets-given-requires-clause-begun g c = let (from, o) = c.requires.opened in (g.R.Source.left from, o.header, o.given)

pub returns-clause-reads : goal.returns-clause-reads
returns-clause-reads g c = λ from o.
    let call = c.give_packets-given in
    let (packets, gave, goes) = call.ensures.gives (g.R.Source.left from) o.header o.given in (
      packets,
      subst (λ e. ReadsOne g.R.Source.left g.R.Source.failures from c.close.result call.new.self.read c.args.n packets e) (sym c.end_of.ensures)
          (reads-opened g.R.Source.left g.R.Source.failures from c.close.result call.new.reader.source c.args.reader call.new.self.read c.args.n packets call.result o
          c.close.ensures call.ensures.taken gave call.ensures.broke),
      goes,
    )

pub returns-clause-begun : goal.returns-clause-begun
returns-clause-begun g c = ap passes_header c.end_of.ensures ∙ end-passes c.args.n c.give_packets-given.result
