use Rattle.std.proofs.Common.{◌≡◌, List, Some, sym, subst, ◌∙◌}
use Rattle.std.specs.List.{slice_get}
use Rattle.std.proofs.lemmas.Option.{get_or_from_slice_get}
use Rattle.bpfvm.specs.declared.insn.Insn.{Insn}
use Rattle.cli_answers.proofs.run_end.end_of_run.Goals as goal

pub returns : goal.returns
returns c =
    let end = c.run_to_end-end.result in
    let is = c.run_to_end-end.ensures in
    let e = is.ends in
    let here = subst (λ (p : List Insn). slice_get p end.place ≡ Some e.insn) (sym c.insns-insns.ensures.value) e.here in
    let at = get_or_from_slice_get c.insns-insns.result.now end.place e.insn _ here in
    rw (sym c.packet.view_is, c.answer.ensures ∙ sym is.told) (e, sym at)
