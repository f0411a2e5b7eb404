-- Several captures whose packets are counted, or in which one is looked for, in order up to the first fault.
use Rattle.std.specs.Prelude.{◌≡◌, ℕ, ◌||◌, Bool, true, false, List, Option, Some, None, Result, Ok, Err, slice_get}
use Rattle.std.specs.Borrow.{Bor}
use Rattle.savefile.specs.declared.fault.Fault.{Fault}
use Rattle.savefile.specs.declared.packet.Packet.{Packet}
use Rattle.line_text.specs.declared.form.NamingForm.{NamingForm}
use Rattle.line_text.specs.Sending.{Takes}
use Rattle.cli_walk.specs.declared.walk.Stop.{Stop}
use Rattle.cli_walk.specs.declared.walk.Visited.{Visited}
use Rattle.cli_walk.specs.Walking.{Walked, visited}
use Rattle.cli_answers.specs.declared.counts.VerdictCounts.{VerdictCounts}
use Rattle.cli_answers.specs.declared.printing.Unprinted.{Unprinted}
use Rattle.cli_answers.specs.declared.seek.Sought.{Sought}
use Rattle.cli_answers.specs.Captures.{goes_on, read_of}
use Rattle.cli_answers.specs.Counts.{no_counts, plus, sum_of}
use Rattle.cli_answers.specs.Seeking.{Seeks}
use Rattle.cli_count.specs.declared.captures.CountTotals.{CountTotals}
use Rattle.cli_count.specs.declared.captures.CountedCaptures.{CountedCaptures}
use Rattle.cli_count.specs.declared.count.CountEnd.{CountEnd}
use Rattle.cli_count.specs.declared.filter.CountedFilter.{CountedFilter}
use Rattle.cli_count.specs.declared.list.ListTotals.{ListTotals}
use Rattle.cli_count.specs.declared.list.ListedCaptures.{ListedCaptures}
use Rattle.cli_count.specs.Counting.{Counts}
use Rattle.cli_count.specs.Lines.{count_line, path_line}

-- this text was printed, or a prefix of it if that failed; or nothing, if there is none
abbrev pub Shows : {A : Type 0} → Option (List ℕ) → Option (List ℕ) → Option (List ℕ) → Result A Unprinted → Type 0
Shows (Some text) old new printed = Takes old new printed text
Shows None old new (Ok done) = new ≡ old
Shows None old new (Err unprinted) = ⊥

-- ---- Counts

-- the counts are printed of the capture at a path whose header was read, if they are asked for
abbrev pub shown_counts : Bool → NamingForm → Option (Bor (List ℕ)) → Bool → VerdictCounts → Option ℕ → Option (List ℕ)
shown_counts true form (Some path) true counts taken = Some (count_line form path.now counts taken)
shown_counts asked form path opened counts taken = None

-- the instructions that were counted, if they were
abbrev pub taken_or_none : Option ℕ → ℕ
taken_or_none (Some n) = n
taken_or_none None = 0

-- no capture was read so far
abbrev pub no_totals : CountTotals
no_totals = record { opened = false; counts = no_counts; instructions = 0; printed = Ok tt }

-- The packets of the capture of this number were counted, and added to those so far; and what is asked for was printed after its path.
abbrev pub CountsNext : {R : Type 0} → (R → Option (List ℕ)) → Bool → NamingForm → List (Bor (List ℕ)) → CountedFilter → Bool → ℕ → CountTotals → Option (List ℕ) → R → Visited R → CountTotals → Option (List ℕ) → Type 0
CountsNext {R = R} left asked form paths f measured n t old from v t' new =
    (c : CountEnd R) × Counts left from f measured c × (v ≡ visited c.source (goes_on c.read t'.printed))
    × Shows (shown_counts asked form (slice_get paths n) c.opened c.counts c.taken) old new t'.printed
    × (t'.opened ≡ (t.opened || c.opened)) × (t'.counts ≡ plus t.counts c.counts) × (t'.instructions ≡ sum_of t.instructions (taken_or_none c.taken))

-- The packets of these captures were counted, one capture after the other, until a fault ended one, or the printing failed.
abbrev pub CountsIn : {R O : Type 0} → (R → Option (List ℕ)) → (R → ℕ) → (O → Option (List ℕ)) → Bool → NamingForm → List (Bor (List ℕ)) → CountedFilter → Bool → List R → O → O → CountedCaptures R → Type 0
CountsIn left failures contents asked form paths f measured captures old new end =
    (ended : Result Bool Stop) × (end.read ≡ read_of ended)
    × Walked left failures (λ n t o from v t' o'. CountsNext left asked form paths f measured n t (contents o) from v t' (contents o')) captures end.sources.items no_totals old end.totals new ended

-- ---- Paths

-- whether a packet was found
abbrev pub was_found : Result Bool Fault → Bool
was_found (Ok found) = found
was_found (Err fault) = false

-- how the reading ended
abbrev pub looked : Result Bool Fault → Result (Unit {0}) Fault
looked (Ok found) = Ok tt
looked (Err fault) = Err fault

-- the path of a capture is printed if it has such a packet
abbrev pub shown_path : NamingForm → Option (Bor (List ℕ)) → Bool → Option (List ℕ)
shown_path form (Some path) true = Some (path_line form path.now)
shown_path form path found = None

-- no capture was read so far
abbrev pub none_listed : ListTotals
none_listed = record { found = false; printed = Ok tt }

-- The capture of this number was looked through, up to the first packet that passes, and its path was printed if there is one.
abbrev pub ListsNext : {R : Type 0} → (R → Option (List ℕ)) → NamingForm → List (Bor (List ℕ)) → (Packet → Bool) → ℕ → ListTotals → Option (List ℕ) → R → Visited R → ListTotals → Option (List ℕ) → Type 0
ListsNext {R = R} left form paths passes n t old from v t' new =
    (s : Sought R) × Seeks left from passes s × (v ≡ visited s.source (goes_on (looked s.found) t'.printed))
    × Shows (shown_path form (slice_get paths n) (was_found s.found)) old new t'.printed
    × (t'.found ≡ (t.found || was_found s.found))

-- These captures were looked through, one after the other, until a fault ended one, or the printing failed.
abbrev pub ListsIn : {R O : Type 0} → (R → Option (List ℕ)) → (R → ℕ) → (O → Option (List ℕ)) → NamingForm → List (Bor (List ℕ)) → (Packet → Bool) → List R → O → O → ListedCaptures R → Type 0
ListsIn left failures contents form paths passes captures old new end =
    (ended : Result Bool Stop) × (end.read ≡ read_of ended)
    × Walked left failures (λ n t o from v t' o'. ListsNext left form paths passes n t (contents o) from v t' (contents o')) captures end.sources.items none_listed old end.totals new ended
