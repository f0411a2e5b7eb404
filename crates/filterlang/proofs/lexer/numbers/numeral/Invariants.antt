use Rattle.std.proofs.Common.{◌≡◌, ◌≤◌, drop}
use Rattle.filterlang.specs.Numbers.{number_behind}
use Rattle.filterlang.proofs.lexer.numbers.numeral.Given as goal

-- the digits that are left spell the number after the one so far, which fits
abbrev pub invariant-loop-byte : goal.invariant-loop-byte
invariant-loop-byte l = (number_behind l.base l.value (drop l.byte-index l.bytes) ≡ number_behind l.base 0 l.bytes) × (l.value ≤ 4294967295)
