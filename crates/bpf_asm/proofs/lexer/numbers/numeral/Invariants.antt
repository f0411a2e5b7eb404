use Rattle.std.proofs.Common.{◌≡◌, ◌≤◌, drop}
use Rattle.bpf_asm.specs.Numbers.{number_after}
use Rattle.bpf_asm.proofs.lexer.numbers.numeral.Given as goal

-- the digits that are left spell the number after the one so far, which fits
abbrev pub invariant-loop-byte : goal.invariant-loop-byte
invariant-loop-byte l = (number_after l.base l.value (drop l.byte-index l.bytes) ≡ number_after l.base 0 l.bytes) × (l.value ≤ 4294967295)
