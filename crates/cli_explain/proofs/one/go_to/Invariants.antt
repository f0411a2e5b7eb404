use Rattle.std.proofs.Common.{◌≡◌, ℕ, ◌-◌, ◌≤◌, List, [], length, Option}
use Rattle.std.specs.Io.KnownBytes.{Consumes}
use Rattle.savefile.specs.declared.header.Header.{Header}
use Rattle.savefile.specs.declared.packet.Packet.{Packet}
use Rattle.savefile.specs.Reader.{HasGiven}
use Rattle.cli_explain.proofs.one.go_to.Given as goal

-- so many packets were passed, and the source did not fail
abbrev pub invariant-loop-passed : goal.invariant-loop-passed
invariant-loop-passed g l =
    record {
      gives : (from : Option (List ℕ)) (header : Header) → HasGiven g.R.Source.left from header [] l.fn.reader →
          (packets : List Packet) × (length packets ≡ l.passed) × HasGiven g.R.Source.left from header packets l.reader;
      few : l.passed ≤ l.place;
      taken : (bytes : List ℕ) × Consumes (g.R.Source.left l.fn.reader.source) (g.R.Source.left l.reader.source) bytes;
      source_works : g.R.Source.failures l.reader.source ≡ g.R.Source.failures l.fn.reader.source;
    }

abbrev pub decreases-loop-passed : goal.decreases-loop-passed
decreases-loop-passed g l = l.place - l.passed
