use Rattle.std.proofs.Common.{◌≡◌, take, arith}
use Rattle.std.proofs.lemmas.List.{take_all}
use Rattle.bpf_asm.specs.Arrays.{array_of}
use Rattle.bpf_asm.proofs.Arrays.{array_more}
use Rattle.bpf_asm.proofs.array.write_array.Goals as goal

pub loop-insn-preserved : goal.loop-insn-preserved
loop-insn-preserved c = array_more _ _ c.insns-insns.result.now c.loop-insn.insn-index _ c.loop-insn-test.true c.loop-insn.invariant c.in_ok-write_element.ensures

pub returns : goal.returns
unfolding array_of
returns c =
    let insns = c.insns-insns.result.now in
    let all : take c.loop-insn.insn-index insns ≡ insns = take_all c.loop-insn.insn-index insns (omega arith) in
    rw c.into_bytes.ensures.value (rw (all, c.insns-insns.ensures.value) at c.loop-insn.invariant)
