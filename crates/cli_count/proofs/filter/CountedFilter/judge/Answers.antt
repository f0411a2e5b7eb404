use Rattle.std.proofs.Common.{List, subst}
use Rattle.bpfvm.specs.declared.insn.Insn.{Insn}
use Rattle.cli_answers.specs.Answers.{IsEndOfRun}
use Rattle.cli_count.proofs.filter.CountedFilter.judge.Goals as goal

pub returns-in-Asked-Program : goal.returns-in-Asked-Program
returns-in-Asked-Program c =
    let end = c.end_of_run-end.result in
    let ends = subst (λ (program : List Insn). IsEndOfRun program c.args.packet.now end.number end.place end.insn) c.deref.ensures c.end_of_run-end.ensures in
    rw (c.in-Asked-Program.is, (rw c.in-Asked-Program.is at c.in-Asked-Program.field-0-is)) (end.number, end.place, end.insn, ends, c.ended_as.ensures)
