use Rattle.std.proofs.Common.{◌≡◌, ◌++◌, false, drop, string_bytes}
use Rattle.std.specs.List.{flat_map}
use Rattle.cli_answers.specs.Dumps.{group_text}
use Rattle.cli_answers.proofs.dump.put_hex.Given as goal

-- what was appended, and what is left, are all
abbrev pub invariant-loop-byte : goal.invariant-loop-byte
invariant-loop-byte l = string_bytes l.text ++ flat_map (group_text false) (drop l.byte-index l.bytes) ≡ string_bytes l.fn.text ++ flat_map (group_text false) l.fn.bytes
