use Rattle.std.proofs.Common.{◌≡◌, ℕ, ◌+◌, ◌-◌, ◌≤◌, List, [], ◌∷◌, ◌++◌, length, Option}
use Rattle.std.specs.Io.KnownBytes.{Consumes}
use Rattle.savefile.specs.declared.header.Header.{Header}
use Rattle.savefile.specs.declared.packet.Packet.{Packet}
use Rattle.savefile.specs.Reader.{HasGiven, Lends}
use Rattle.cli_explain.specs.Range.{PrintsEach}
use Rattle.cli_explain.proofs.range.print_range.Given as goal

-- so many packets were printed, the next one is lent, and the source did not fail
abbrev pub invariant-loop-places : goal.invariant-loop-places
invariant-loop-places g l =
    record {
      prints : (from : Option (List ℕ)) (header : Header) (before : List Packet) →
          HasGiven g.R.Source.left from header (before ++ l.fn.reader.lent ∷ []) l.fn.reader →
          (shown : List Packet) × (l.place ≡ l.places.first + length shown)
          × HasGiven g.R.Source.left from header ((before ++ shown) ++ l.reader.lent ∷ []) l.reader
          × PrintsEach l.printer.form l.printer.filter.now l.places.first shown (g.O.Write.contents l.fn.out) (g.O.Write.contents l.out);
      lends : Lends l.reader;
      above : l.places.first ≤ l.place;
      within : l.place ≤ l.places.first + (l.places.last - l.places.first);
      taken : (bytes : List ℕ) × Consumes (g.R.Source.left l.fn.reader.source) (g.R.Source.left l.reader.source) bytes;
      source_works : g.R.Source.failures l.reader.source ≡ g.R.Source.failures l.fn.reader.source;
    }

abbrev pub decreases-loop-places : goal.decreases-loop-places
decreases-loop-places g l = l.places.last - l.place
