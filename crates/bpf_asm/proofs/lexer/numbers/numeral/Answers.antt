use Rattle.std.proofs.Common.{arith, ◌∙◌, sym, false-eqb}
use Rattle.bpf_asm.proofs.Numerals.{overflows, numeral_read}
use Rattle.bpf_asm.proofs.lexer.numbers.numeral.Goals as goal

-- the number is too great
pub returns-in_err-checked_mul : goal.returns-in_err-checked_mul
returns-in_err-checked_mul c =
    let digit = c.in_ok-digit.ensures.value in
    c.from_residual-in_err-checked_mul.ensures
    ∙ sym (overflows 4294967295 c.args.base c.loop-byte.value c.args.bytes.now c.loop-byte.byte-index c.from.result (omega arith) (omega arith) c.from.ensures digit.0 (omega (arith, c.in_err-checked_mul.ensures)) c.loop-byte.invariant.0)

pub returns-in_err-value : goal.returns-in_err-value
returns-in_err-value c =
    let digit = c.in_ok-digit.ensures.value in
    c.from_residual-in_err-value.ensures
    ∙ sym (overflows 4294967295 c.args.base c.loop-byte.value c.args.bytes.now c.loop-byte.byte-index c.from.result (omega arith) (omega arith) c.from.ensures digit.0 (omega (arith, digit.1, c.in_err-value.ensures, c.in_ok-checked_mul.ensures)) c.loop-byte.invariant.0)

-- every digit was read
pub returns : goal.returns
returns c = numeral_read 4294967295 c.args.base c.loop-byte.value c.args.bytes.now c.loop-byte.byte-index (omega (arith, false-eqb _ 0 c.if-is_empty.ensures)) (omega arith) (omega arith) c.loop-byte.invariant.0
