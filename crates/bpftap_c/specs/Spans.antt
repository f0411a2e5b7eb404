-- Captures in memory, read many records at a time.
use Rattle.std.specs.Prelude.{◌≡◌, ◌≢◌, ◌<◌, ◌⊎◌, ℕ, List, [], ◌∷◌, ◌++◌, length, map, drop}
use Rattle.bpftap_c.specs.declared.batches.BpftapSpan.{BpftapSpan}
use Rattle.bpftap_c.specs.declared.captures.BpftapReader.{BpftapReader}
use Rattle.bpftap_c.specs.declared.captures.BpftapRecord.{BpftapRecord}
use Rattle.bpftap_c.specs.declared.outcome.BpftapResult.{BpftapResult}
use Rattle.bpftap_c.specs.Captures.{GivesNext}
use Rattle.bpftap_c.specs.Outcome.{done}

-- where the packet of a record lies
abbrev pub span_of : BpftapRecord → BpftapSpan
span_of given = record { offset = given.offset; captured = given.captured; wire = given.wire }

-- the result of a call that put this many spans, and then came to what is no record
abbrev pub stopped : ℕ → BpftapRecord → BpftapResult
stopped size last = record { fault = last.fault; size = size; place = last.place }

-- The reader gives these records one after the other, each without a fault, and is then as `new`.
abbrev pub GivesAll : List ℕ → List BpftapRecord → BpftapReader → BpftapReader → Type 0
GivesAll memory [] old new = new ≡ old
GivesAll memory (given ∷ later) old new =
    (given.fault ≡ 0) × ((next : BpftapReader) × GivesNext memory old next given × GivesAll memory later next new)

-- as many records as there is room for; or fewer, and what the reader gives next is none
abbrev pub IsEnded : List ℕ → ℕ → ℕ → BpftapReader → BpftapResult → Type 0
IsEnded memory size room reader told =
    ((size ≡ room) × (told ≡ done size))
    ⊎ ((size < room) × ((last : BpftapRecord) × (last.fault ≢ 0) × GivesNext memory reader reader last × (told ≡ stopped size last)))

-- The spans of the records that the reader gives are in the front of the memory, and the rest is as it was.
abbrev pub PutsSpans : List ℕ → BpftapReader → BpftapReader → List BpftapSpan → List BpftapSpan → BpftapResult → Type 0
PutsSpans memory reader after old new told =
    (given : List BpftapRecord) × GivesAll memory given reader after × (new ≡ map span_of given ++ drop (length given) old)
    × IsEnded memory (length given) (length old) after told
