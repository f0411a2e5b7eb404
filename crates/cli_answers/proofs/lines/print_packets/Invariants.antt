use Rattle.std.proofs.Common.{◌≡◌, ℕ, ◌-◌, ◌^◌, List, [], Option}
use Rattle.std.specs.Io.KnownBytes.{Consumes}
use Rattle.savefile.specs.declared.header.Header.{Header}
use Rattle.savefile.specs.declared.packet.Packet.{Packet}
use Rattle.savefile.specs.Reader.{HasGiven}
use Rattle.cli_answers.proofs.lines.print_packets.Given as goal

-- the packets that were read so far were printed and counted, and the source did not fail
abbrev pub invariant-loop-reader : goal.invariant-loop-reader
invariant-loop-reader g l =
    record {
      prints : (from : Option (List ℕ)) (header : Header) → HasGiven g.R.Source.left from header [] l.fn.reader →
          (packets : List Packet) × HasGiven g.R.Source.left from header packets l.reader
          × g.P.PacketPrinter.printed l.printer packets (g.O.Write.contents l.fn.out) (g.O.Write.contents l.out) l.counts;
      fit : g.C.PacketCounts.fit l.counts l.reader.given;
      taken : (bytes : List ℕ) × Consumes (g.R.Source.left l.fn.reader.source) (g.R.Source.left l.reader.source) bytes;
      source_works : g.R.Source.failures l.reader.source ≡ g.R.Source.failures l.fn.reader.source;
    }

abbrev pub decreases-loop-reader : goal.decreases-loop-reader
decreases-loop-reader g l = 2 ^ 64 - l.reader.given
