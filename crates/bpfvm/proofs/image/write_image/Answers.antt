use Rattle.std.proofs.Common.{◌≡◌, ◌∙◌, take, sym, arith}
use Rattle.std.proofs.lemmas.List.{take_all}
use Rattle.bpfvm.specs.Images.{image_of}
use Rattle.bpfvm.proofs.Images.{one-more}
use Rattle.bpfvm.proofs.image.write_image.Goals as goal

pub loop-place-preserved : goal.loop-place-preserved
loop-place-preserved c =
    (rw c.loop-place.invariant at c.in_ok-write.ensures.bytes) ∙ sym (one-more c.insns-insns.result.now c.loop-place.place _ (omega arith))

pub returns : goal.returns
unfolding image_of
returns c =
    let insns = c.insns-insns.result.now in
    let all : take c.loop-place.place insns ≡ insns = take_all c.loop-place.place insns (omega arith) in
    rw c.into_bytes.ensures.value (rw (all, c.insns-insns.ensures.value) at c.loop-place.invariant)
