-- The program that rejects every packet.
use Rattle.std.proofs.Common.{◌≡◌, None, refl, subst, zero, suc, arith}
use Rattle.bpfvm.specs.declared.insn.Insn.{Insn}
use Rattle.bpfvm.specs.Codes.{operation_of}
use Rattle.bpfvm.specs.Validity.{fault_of, is_return, IsValidProgram, SoundBefore}
use Rattle.bpftap_c.specs.Programs.{reject_all}

sound : SoundBefore reject_all 1
unfolding fault_of operation_of
sound zero i before at =
    let is : (record { code = 6; jt = 0; jf = 0; k = 0 }) ≡ i = cc in
    subst (λ (j : Insn). fault_of 1 0 j ≡ None) is refl
sound (suc k) i before at = absurd (omega (arith, before))

pub is_valid : IsValidProgram reject_all
unfolding is_return operation_of
is_valid = record { some = omega arith; most = omega arith; sound = sound; returns = (_, refl, refl) }
