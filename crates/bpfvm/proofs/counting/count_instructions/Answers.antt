use Rattle.std.proofs.Common.{◌≡◌, ℕ, ◌+◌, arith, sym, ap, subst, ◌∙◌, List, [], ◌∷◌, ◌++◌, append_assoc, length, length-append}
use Rattle.std.proofs.lemmas.Option.{slice_get-get_or}
use Rattle.bpfvm.specs.declared.insn.Insn.{Insn}
use Rattle.bpfvm.specs.declared.tracing.Executed.{Executed}
use Rattle.bpfvm.specs.Machine.{beginning}
use Rattle.bpfvm.specs.Next.{with_memory}
use Rattle.bpfvm.specs.Traces.{Runs, TakesInstructions}
use Rattle.bpfvm.proofs.Runs.{step-inside, valid-sound}
use Rattle.bpfvm.proofs.Traces.{entry-goes, entry-ends}
use Rattle.bpfvm.proofs.counting.count_instructions.Goals as goal

pub step-requires : goal.step-requires
step-requires c =
    valid-sound c.insns-insns.result.now c.loop-passed.place _ c.insns-insns.ensures.valid
    (slice_get-get_or c.insns-insns.result.now c.loop-passed.place _ c.loop-passed.invariant.inside)

-- an entry at the end makes a list longer by one
longer : (executed : List Executed) (e : Executed) (count : ℕ) → length executed + 1 ≡ count → length (executed ++ e ∷ []) + 1 ≡ count + 1
longer executed e count is = ap (λ (n : ℕ). n + 1) (length-append executed (e ∷ []) ∙ is)

pub loop-passed-preserved : goal.loop-passed-preserved
loop-passed-preserved c =
    let here = slice_get-get_or c.insns-insns.result.now c.loop-passed.place _ c.loop-passed.invariant.inside in
    let same : c.loop-passed.place + 1 + c.in-On.passed ≡ c.loop-passed.place + (1 + c.in-On.passed) = omega arith in
    let inside = step-inside c.insns-insns.result.now c.loop-passed.place _ c.args.packet.now c.args.wire _ c.in-On.passed _ c.insns-insns.ensures.valid here (sym c.in-On.ensures) in
    let (executed, count, front) = c.loop-passed.invariant.front in
    let (e, goes) = entry-goes c.insns-insns.result.now c.args.packet.now c.args.wire c.loop-passed.place _ _ c.in-On.passed _ c.insns-insns.ensures.valid here (sym c.in-On.ensures) in
    record {
      inside = omega (arith, inside);
      few = omega (arith, c.loop-passed.invariant.few);
      front = (
        executed ++ e ∷ [],
        longer executed e c.loop-passed.count count,
        λ others n later.
            let next = subst (λ (place : ℕ). Runs c.insns-insns.result.now c.args.packet.now c.args.wire (record { place = place; registers = with_memory c.step.new.registers c.step.new.memory }) others n) (sym same) later in
            subst (λ (l : List Executed). Runs c.insns-insns.result.now c.args.packet.now c.args.wire beginning l n) (sym (append_assoc executed (e ∷ []) others))
            (front (e ∷ others) n (goes others n next)),
      );
    }

pub returns-in-End : goal.returns-in-End
returns-in-End c =
    let here = slice_get-get_or c.insns-insns.result.now c.loop-passed.place _ c.loop-passed.invariant.inside in
    let (executed, count, front) = c.loop-passed.invariant.front in
    let (e, runs) = entry-ends c.insns-insns.result.now c.args.packet.now c.args.wire c.loop-passed.place _ _ _ c.insns-insns.ensures.valid here (sym c.in-End.ensures) in
    subst (λ (p : List Insn). TakesInstructions p c.args.packet.now c.args.wire c.loop-passed.count) c.insns-insns.ensures.value
    (record { executed = executed ++ e ∷ []; answer = _; runs = front (e ∷ []) _ runs; counted = sym (length-append executed (e ∷ []) ∙ count) })
