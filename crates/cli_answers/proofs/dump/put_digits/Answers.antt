use Rattle.std.proofs.Common.{arith}
use Rattle.cli_answers.proofs.Rows.{digits-end, digits-next}
use Rattle.cli_answers.proofs.dump.put_digits.Goals as goal

pub loop-byte-preserved : goal.loop-byte-preserved
loop-byte-preserved c = digits-next c.args.bytes.now c.loop-byte.begins c.loop-byte.byte-index _ _ _ c.loop-byte-test.true c.loop-byte.invariant c.in_ok-put_byte.ensures

pub returns : goal.returns
returns c = digits-end c.args.bytes.now c.loop-byte.begins c.loop-byte.byte-index _ _ (omega arith) c.loop-byte.invariant
