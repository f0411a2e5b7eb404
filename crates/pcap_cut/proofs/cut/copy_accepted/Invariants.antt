use Rattle.std.proofs.Common.{◌≡◌, ℕ, ◌-◌, ◌^◌, ◌≤◌, List, [], Option}
use Rattle.std.specs.Io.KnownBytes.{Consumes}
use Rattle.savefile.specs.declared.header.Header.{Header}
use Rattle.savefile.specs.declared.header.Order.{Order}
use Rattle.savefile.specs.declared.header.Unit.{Unit as TimeUnit}
use Rattle.savefile.specs.Reader.{HasGiven}
use Rattle.savefile.specs.Writer.{HasWritten}
use Rattle.pcap_cut.specs.Copying.{Copies}
use Rattle.pcap_cut.proofs.cut.copy_accepted.Given as goal

-- the accepted packets of those that were read so far were written, and neither device failed
abbrev pub invariant-loop-reader : goal.invariant-loop-reader
invariant-loop-reader g l =
    record {
      copies : (from : Option (List ℕ)) (header : Header) (to : Option (List ℕ)) (order : Order) (unit : TimeUnit) (head : ℕ) →
          HasGiven g.R.Source.left from header [] l.fn.reader → HasWritten g.W.Sink.taken to order unit head [] l.fn.writer →
          Copies g.R.Source.left g.W.Sink.taken from header to order unit head l.program l.snap l.tally l.reader l.writer;
      read : l.tally.read ≤ l.reader.given;
      written : l.tally.written ≤ l.tally.read;
      taken : (bytes : List ℕ) × Consumes (g.R.Source.left l.fn.reader.source) (g.R.Source.left l.reader.source) bytes;
      source_works : g.R.Source.failures l.reader.source ≡ g.R.Source.failures l.fn.reader.source;
      sink_works : g.W.Sink.failures l.writer.sink ≡ g.W.Sink.failures l.fn.writer.sink;
      named : g.W.Sink.name l.writer.sink ≡ g.W.Sink.name l.fn.writer.sink;
    }

abbrev pub decreases-loop-reader : goal.decreases-loop-reader
decreases-loop-reader g l = 2 ^ 64 - l.reader.given
