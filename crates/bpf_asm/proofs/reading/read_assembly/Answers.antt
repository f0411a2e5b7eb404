use Rattle.std.proofs.Common.{arith}
use Rattle.bpf_asm.proofs.Refusals.{lines_refused, insns_refused}
use Rattle.bpf_asm.proofs.reading.read_assembly.Goals as goal

pub returns-in_err-lines-clause-fault : goal.returns-in_err-lines-clause-fault
returns-in_err-lines-clause-fault c = lines_refused _ c.in_err-lines.field-0.0 c.args.text.now (omega arith) c.from_residual.ensures c.in_err-lines.ensures

pub returns-in_err-insns-clause-fault : goal.returns-in_err-insns-clause-fault
returns-in_err-insns-clause-fault c =
    insns_refused _ c.in_err-insns.field-0.0 c.args.text.now c.in_ok-lines.lines.items (omega arith) c.from_residual-in_err-insns.ensures c.in_ok-lines.ensures
    (rw c.deref.ensures.value at c.in_err-insns.ensures)
