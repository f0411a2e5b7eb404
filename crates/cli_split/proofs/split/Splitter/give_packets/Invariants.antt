use Rattle.std.proofs.Common.{◌≡◌, ◌-◌, ◌^◌, ℕ, List, [], Option}
use Rattle.std.specs.Io.KnownBytes.{Consumes}
use Rattle.savefile.specs.declared.header.Header.{Header}
use Rattle.savefile.specs.declared.packet.Packet.{Packet}
use Rattle.savefile.specs.Reader.{HasGiven}
use Rattle.cli_split.specs.Standing.{GoesOn}
use Rattle.cli_split.proofs.split.Splitter.give_packets.Given as goal

-- the packets that the reader has given were given to all, and it did not fail
abbrev pub invariant-loop-self : goal.invariant-loop-self
invariant-loop-self g l = record {
  gives : (start : Option (List ℕ)) (header : Header) → HasGiven g.R.Source.left start header [] l.fn.reader →
      (packets : List Packet) × HasGiven g.R.Source.left start header packets l.reader × GoesOn g.W.Sink.taken g.W.Sink.name g.W.Sink.failures packets l.fn.self l.self;
  taken : (bytes : List ℕ) × Consumes (g.R.Source.left l.fn.reader.source) (g.R.Source.left l.reader.source) bytes;
  works : g.R.Source.failures l.reader.source ≡ g.R.Source.failures l.fn.reader.source;
}

abbrev pub decreases-loop-self : goal.decreases-loop-self
decreases-loop-self g l = 2 ^ 64 - l.self.read
