use Rattle.std.proofs.Common.{◌≡◌, ◌+◌, ◌<◌, ◌/◌, ◌++◌, [], length, string_bytes}
use Rattle.cli_answers.specs.Dumps.{dump_text, rows_text}
use Rattle.cli_answers.proofs.dump.put_dump.Given as goal

-- what was appended, and the lines of what is left, are all
abbrev pub invariant-loop-bytes : goal.invariant-loop-bytes
invariant-loop-bytes l =
    let rest = l.bytes-iterator.rest.now in
    (goal.iterator-loop-bytes).can_next l.bytes-iterator × (goal.iterator-loop-bytes).is_finite l.bytes-iterator
    × (l.bytes-iterator.size ≡ 16) × (0 < length rest → l.at + length rest ≡ length l.fn.packet)
    × (l.fn.looks ≡ [] → string_bytes l.text ++ rows_text ((length rest + 15) / 16) l.at rest ≡ string_bytes l.fn.text ++ dump_text l.fn.packet)
