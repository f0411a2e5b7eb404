use Rattle.std.proofs.Common.{◌≡◌, ℕ, ◌+◌, arith, refl, sym, ap, subst, ◌∙◌, List, [], ◌∷◌, ◌++◌, append_assoc}
use Rattle.std.proofs.lemmas.Option.{slice_get-get_or}
use Rattle.bpfvm.specs.declared.insn.Insn.{Insn}
use Rattle.bpfvm.specs.declared.tracing.Executed.{Executed}
use Rattle.bpfvm.specs.Machine.{verdict, beginning}
use Rattle.bpfvm.specs.Next.{with_memory}
use Rattle.bpfvm.specs.Traces.{Runs}
use Rattle.bpfvm.proofs.Runs.{answer-goes, answer-ends, step-inside, valid-sound}
use Rattle.bpfvm.proofs.Traces.{Runs-goes, Runs-ends}
use Rattle.bpfvm.proofs.tracing.trace.Goals as goal

pub loop-passed-init : goal.loop-passed-init
unfolding verdict
loop-passed-init c = record {
  inside = c.insns-insns.ensures.valid.some;
  answers = refl;
  front = λ others n runs. rw c.new-executed.ensures.items runs;
}

pub step-requires : goal.step-requires
step-requires c =
    valid-sound c.insns-insns.result.now c.loop-passed.place _ c.insns-insns.ensures.valid
    (slice_get-get_or c.insns-insns.result.now c.loop-passed.place _ c.loop-passed.invariant.inside)

-- what is pushed goes in front of what follows
pushed : (program : List Insn) (packet : List ℕ) (wire : ℕ) (executed longer others : List Executed) (e : Executed) (n : ℕ) → longer ≡ executed ++ e ∷ [] → Runs program packet wire beginning (executed ++ e ∷ others) n → Runs program packet wire beginning (longer ++ others) n
pushed program packet wire executed longer others e n is runs =
    subst (λ (l : List Executed). Runs program packet wire beginning (l ++ others) n) (sym is)
    (subst (λ (l : List Executed). Runs program packet wire beginning l n) (sym (append_assoc executed (e ∷ []) others)) runs)

pub loop-passed-preserved : goal.loop-passed-preserved
loop-passed-preserved c =
    let same : c.loop-passed.place + 1 + c.in-On.passed ≡ c.loop-passed.place + (1 + c.in-On.passed) = omega arith in
    let inside = step-inside c.insns-insns.result.now c.loop-passed.place _ c.args.packet.now c.args.wire _ c.in-On.passed _ c.insns-insns.ensures.valid
    (slice_get-get_or c.insns-insns.result.now c.loop-passed.place _ c.loop-passed.invariant.inside) (sym c.in-On.ensures) in
    let goes = answer-goes c.insns-insns.result.now c.loop-passed.place _ c.args.packet.now c.args.wire _ c.in-On.passed _
    (slice_get-get_or c.insns-insns.result.now c.loop-passed.place _ c.loop-passed.invariant.inside) (sym c.in-On.ensures) in
    record {
      inside = omega (arith, inside);
      answers = sym (rw same at goes) ∙ c.loop-passed.invariant.answers;
      front = λ others n later.
          let next = subst (λ (place : ℕ). Runs c.insns-insns.result.now c.args.packet.now c.args.wire (record { place = place; registers = with_memory c.step.new.registers c.step.new.memory }) others n) (sym same) later in
          pushed c.insns-insns.result.now c.args.packet.now c.args.wire c.loop-passed.executed.items c.push.new.self.items others c.entry.result n
          c.in_ok-push-in-On.ensures.items
          (c.loop-passed.invariant.front (c.entry.result ∷ others) n
          (Runs-goes c.insns-insns.result.now c.args.packet.now c.args.wire c.loop-passed.place _ _ c.in-On.passed _ c.entry.result others n c.insns-insns.ensures.valid
          (slice_get-get_or c.insns-insns.result.now c.loop-passed.place _ c.loop-passed.invariant.inside)
          (sym c.in-On.ensures) (λ operation known. c.entry.ensures operation c.step.new.memory known) next));
    }

pub returns-in-End-clause-steps : goal.returns-in-End-clause-steps
returns-in-End-clause-steps c =
    let runs = Runs-ends c.insns-insns.result.now c.args.packet.now c.args.wire c.loop-passed.place _ _ c.entry-in-End.result c.in-End.answer c.insns-insns.ensures.valid
    (slice_get-get_or c.insns-insns.result.now c.loop-passed.place _ c.loop-passed.invariant.inside)
    (sym c.in-End.ensures) (λ operation known. c.entry-in-End.ensures operation c.loop-passed.memory known) in
    let whole = c.loop-passed.invariant.front (c.entry-in-End.result ∷ []) c.in-End.answer runs in
    subst (λ (p : List Insn). Runs p c.args.packet.now c.args.wire beginning c.push-in-End.new.self.items c.in-End.answer) c.insns-insns.ensures.value
    (subst (λ (l : List Executed). Runs c.insns-insns.result.now c.args.packet.now c.args.wire beginning l c.in-End.answer) (sym c.in_ok-push-in-End.ensures.items) whole)

pub returns-in-End-clause-answer : goal.returns-in-End-clause-answer
returns-in-End-clause-answer c =
    let ends = answer-ends c.insns-insns.result.now c.loop-passed.place _ c.args.packet.now c.args.wire _ c.in-End.answer
    (slice_get-get_or c.insns-insns.result.now c.loop-passed.place _ c.loop-passed.invariant.inside) (sym c.in-End.ensures) in
    sym ends ∙ c.loop-passed.invariant.answers ∙ ap (λ (p : List Insn). verdict p c.args.packet.now c.args.wire) c.insns-insns.ensures.value
