use Rattle.bpfvm.specs.Codes.{Accumulator}
use Rattle.filtergen_code.specs.Insns.{plain_insn}
use Rattle.filtergen_code.proofs.Computing.{loads-one, number-effect, length-effect}
use Rattle.filtergen_code.proofs.code.Code.emit_leaf.Goals as goal

pub returns-in-Number : goal.returns-in-Number
returns-in-Number c =
    let n = c.in-Number.n in
    rw (c.in-Number.is, c.emit_plain.ensures) (loads-one (plain_insn 0 n) Accumulator (λ p. n) c.args.self.now (number-effect n))

pub returns-in-Length : goal.returns-in-Length
returns-in-Length c = rw (c.in-Length.is, c.emit_plain-in-Length.ensures) (loads-one (plain_insn 0x80 0) Accumulator (λ p. p.wire) c.args.self.now length-effect)
