-- The records so far were given one after the other, and their spans are in the front.
use Rattle.std.proofs.Common.{◌≡◌, List, ◌++◌, length, map, drop}
use Rattle.bpftap_c.specs.declared.captures.BpftapRecord.{BpftapRecord}
use Rattle.bpftap_c.specs.Spans.{span_of, GivesAll}
use Rattle.bpftap_c.proofs.spans.bpftap_spans.Given as goal

abbrev pub invariant-loop-place : goal.invariant-loop-place
invariant-loop-place l =
    (given : List BpftapRecord) × GivesAll l.fn.memory given l.fn.reader l.reader × (length given ≡ l.place)
    × (l.spans ≡ map span_of given ++ drop (length given) l.fn.spans)
