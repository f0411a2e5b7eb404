use Rattle.std.proofs.Common.{◌≡◌, ap, sym, subst, ◌∙◌, ⊎_elim, List, ℕ}
use Rattle.bpfvm.specs.declared.insn.Insn.{Insn}
use Rattle.bpfvm.specs.declared.ending.How.{How}
use Rattle.bpfvm.specs.declared.ending.How.TheVariants.{NotCaptured, ZeroDivisor}
use Rattle.bpfvm.specs.Endings.{IsEnd}
use Rattle.filter_same.specs.declared.witness.Witness.{Witness}
use Rattle.filter_same.specs.Same.{packet}
use Rattle.filter_diagrams.specs.Programs.{program_test}
use Rattle.filter_diagrams.proofs.Runs.{end-says, verdict_by}
use Rattle.filter_same.proofs.filters.program_verdict.Goals as goal

-- the end that is reported, of the packet that the witness is
says : (program : List Insn) (w : Witness) (bytes : List ℕ) (place : ℕ) (how : How) → bytes ≡ w.bytes.items → IsEnd program bytes w.wire place how → verdict_by how ≡ program_test program (packet w)
says program w bytes place how is end = end-says program (packet w) place how (subst (λ (b : List ℕ). IsEnd program b w.wire place how) is end)

pub returns-in-Returned : goal.returns-in-Returned
returns-in-Returned c =
    c.decided.ensures ∙ sym (ap verdict_by c.in-Returned.is)
    ∙ says c.args.program.now c.args.witness.now c.deref.result.now c.run_to_end.result.place c.run_to_end.result.how c.deref.ensures.value c.run_to_end.ensures

pub returns-in-NotCaptured : goal.returns-in-NotCaptured
returns-in-NotCaptured c =
    let end = says c.args.program.now c.args.witness.now c.deref.result.now c.run_to_end.result.place c.run_to_end.result.how c.deref.ensures.value c.run_to_end.ensures in
    ⊎_elim (λ (is : c.run_to_end.result.how ≡ NotCaptured). sym (ap verdict_by is) ∙ end) (λ (is : c.run_to_end.result.how ≡ ZeroDivisor). sym (ap verdict_by is) ∙ end) c.in-NotCaptured.is
