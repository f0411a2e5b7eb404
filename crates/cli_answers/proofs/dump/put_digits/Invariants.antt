use Rattle.std.proofs.Common.{◌≡◌, ◌++◌, true, drop, string_bytes}
use Rattle.cli_answers.specs.Dumps.{digits_text}
use Rattle.cli_answers.proofs.dump.put_digits.Given as goal

-- what was appended, and what is left, are all
abbrev pub invariant-loop-byte : goal.invariant-loop-byte
invariant-loop-byte l = string_bytes l.text ++ digits_text l.begins (drop l.byte-index l.bytes) ≡ string_bytes l.fn.text ++ digits_text true l.fn.bytes
