use Rattle.std.proofs.Common.{◌≡◌, ℕ, ◌-◌, ◌^◌, List, [], Option}
use Rattle.std.specs.Io.KnownBytes.{Consumes}
use Rattle.savefile.specs.declared.header.Header.{Header}
use Rattle.savefile.specs.declared.packet.Packet.{Packet}
use Rattle.savefile.specs.Reader.{HasGiven}
use Rattle.pcap_info.specs.Contents.{IsContents}
use Rattle.pcap_info.proofs.survey.count_all.Given as goal

-- the packets that were read so far are those that were counted, and the source did not fail
abbrev pub invariant-loop-reader : goal.invariant-loop-reader
invariant-loop-reader g l =
    record {
      counts : (from : Option (List ℕ)) (header : Header) → HasGiven g.R.Source.left from header [] l.fn.reader → IsContents [] l.fn.contents →
          (packets : List Packet) × HasGiven g.R.Source.left from header packets l.reader × IsContents packets l.contents;
      header : l.reader.header ≡ l.fn.reader.header;
      taken : (bytes : List ℕ) × Consumes (g.R.Source.left l.fn.reader.source) (g.R.Source.left l.reader.source) bytes;
      source_works : g.R.Source.failures l.reader.source ≡ g.R.Source.failures l.fn.reader.source;
    }

abbrev pub decreases-loop-reader : goal.decreases-loop-reader
decreases-loop-reader g l = 2 ^ 64 - l.reader.given
