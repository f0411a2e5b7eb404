use Rattle.std.proofs.Common.{◌≡◌, Some, List, ap, sym, subst, ◌∙◌}
use Rattle.std.proofs.lemmas.Option.{get_or_from_slice_get}
use Rattle.std.specs.List.{slice_get}
use Rattle.bpfvm.specs.declared.insn.Insn.{Insn}
use Rattle.bpfvm.specs.Codes.{operation_of}
use Rattle.bpfvm.specs.Machine.{beginning}
use Rattle.bpfvm.specs.Endings.{answer_of}
use Rattle.bpfvm.proofs.Endings.{end-known}
use Rattle.bpfvm.proofs.ending.run_to_end.Goals as goal

pub returns : goal.returns
returns c =
    let e = c.last_of-last.ensures in
    let place = c.last_of-last.result.place in
    let n = c.last_of-last.result.answer in
    let (operation, known, is) = end-known c.args.program.now c.args.packet.now c.args.wire beginning place n e in
    let here = subst (λ (p : List Insn). slice_get p place ≡ Some e.insn) (sym c.insns-insns.ensures.value) e.here in
    let at = get_or_from_slice_get c.insns-insns.result.now place e.insn _ here in
    let how = c.how_by.ensures operation (ap (λ (i : Insn). operation_of i.code) at ∙ known) in
    record { answer = n; ends = e; operation = operation; known = known; why = how; told = is ∙ sym (ap answer_of how) }
