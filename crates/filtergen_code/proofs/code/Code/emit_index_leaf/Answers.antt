use Rattle.bpfvm.specs.Codes.{Index}
use Rattle.filtergen_code.specs.Insns.{plain_insn}
use Rattle.filtergen_code.proofs.Computing.{loads-one, index_number-effect, index_length-effect}
use Rattle.filtergen_code.proofs.code.Code.emit_index_leaf.Goals as goal

pub returns-in-Number : goal.returns-in-Number
returns-in-Number c =
    let n = c.in-Number.n in
    rw (c.in-Number.is, c.emit_plain.ensures) (loads-one (plain_insn 1 n) Index (λ p. n) c.args.self.now (index_number-effect n))

pub returns-in-Length : goal.returns-in-Length
returns-in-Length c = rw (c.in-Length.is, c.emit_plain-in-Length.ensures) (loads-one (plain_insn 0x81 0) Index (λ p. p.wire) c.args.self.now index_length-effect)
