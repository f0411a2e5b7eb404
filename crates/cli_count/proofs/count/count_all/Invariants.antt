use Rattle.std.proofs.Common.{◌≡◌, ◌≤◌, ℕ, ◌-◌, ◌^◌, List, [], Option, option_copied}
use Rattle.std.specs.List.{AllByRecursion}
use Rattle.std.specs.Io.KnownBytes.{Consumes}
use Rattle.savefile.specs.declared.header.Header.{Header}
use Rattle.savefile.specs.Reader.{HasGiven}
use Rattle.cli_answers.specs.Answers.{Answer}
use Rattle.cli_answers.specs.Counts.{AreCounts}
use Rattle.cli_count.specs.Counting.{IsAnswered, IsTaken, packets_of}
use Rattle.cli_count.proofs.count.count_all.Given as goal

-- the packets that were read so far were answered and counted, and the source did not fail
abbrev pub invariant-loop-reader : goal.invariant-loop-reader
invariant-loop-reader g l =
    record {
      counts : (from : Option (List ℕ)) (header : Header) → HasGiven g.R.Source.left from header [] l.fn.reader →
          (answers : List Answer) × HasGiven g.R.Source.left from header (packets_of answers) l.reader × AllByRecursion (IsAnswered l.filter) answers × AreCounts l.counts answers
          × IsTaken (option_copied l.program) (packets_of answers) l.charged;
      packets : l.counts.packets ≤ l.reader.given;
      yes : l.counts.yes ≤ l.counts.packets;
      no : l.counts.no ≤ l.counts.packets;
      abort : l.counts.abort ≤ l.counts.packets;
      unseen : l.counts.unseen ≤ l.counts.packets;
      taken : (bytes : List ℕ) × Consumes (g.R.Source.left l.fn.reader.source) (g.R.Source.left l.reader.source) bytes;
      source_works : g.R.Source.failures l.reader.source ≡ g.R.Source.failures l.fn.reader.source;
    }

abbrev pub decreases-loop-reader : goal.decreases-loop-reader
decreases-loop-reader g l = 2 ^ 64 - l.reader.given
