-- A field that an instruction does not use changes nothing.
use Rattle.std.proofs.Common.{◌≡◌, ℕ, zero, suc, ◌-◌, ◌<◌, List, [], ◌∷◌, Option, Some, None, map, length, refl, sym, ap, ◌∙◌, subst}
use Rattle.std.specs.Prelude.{slice_get, option_map}
use Rattle.std.proofs.lemmas.List.{length-map}
use Rattle.std.proofs.lemmas.Option.{slice_get-map}
use Rattle.bpfvm.specs.declared.insn.Insn.{Insn}
use Rattle.bpfvm.specs.Codes as bpf
use Rattle.bpfvm.specs.Codes.{operation_of}
use Rattle.bpfvm.specs.Machine.{Registers, Effect, Goes, Ends, effect_if, effect, answer, initial, verdict}
use Rattle.bpfvm.specs.Validity.{fault_in, fault_of, is_return, is_return_code, IsValidProgram}
use Rattle.bpf_asm.specs.Laws.{cleared_as, cleared}

-- the code stays
code_kept : (o : Option bpf.Operation) (i : Insn) → (cleared_as o i).code ≡ i.code
code_kept (Some (bpf.Branch test bpf.Constant)) i = refl
code_kept (Some (bpf.Branch test bpf.InIndex)) i = refl
code_kept (Some (bpf.Calculate how bpf.Constant)) i = refl
code_kept (Some (bpf.Calculate how bpf.InIndex)) i = refl
code_kept other i = refl

operation_kept : (i : Insn) → bpf.operation_of (cleared i).code ≡ bpf.operation_of i.code
operation_kept i = ap bpf.operation_of (code_kept (bpf.operation_of i.code) i)

-- ---- What is wrong with it

fault_as : (o : Option bpf.Operation) (size place : ℕ) (i : Insn) → fault_in o size place (cleared_as o i) ≡ fault_in o size place i
fault_as (Some (bpf.Branch test bpf.Constant)) size place i = refl
fault_as (Some (bpf.Branch test bpf.InIndex)) size place i = refl
fault_as (Some (bpf.Calculate bpf.Divide bpf.Constant)) size place i = refl
fault_as (Some (bpf.Calculate bpf.Divide bpf.InIndex)) size place i = refl
fault_as (Some (bpf.Calculate bpf.Modulo bpf.Constant)) size place i = refl
fault_as (Some (bpf.Calculate bpf.Modulo bpf.InIndex)) size place i = refl
fault_as (Some (bpf.Calculate how bpf.Constant)) size place i = refl
fault_as (Some (bpf.Calculate how bpf.InIndex)) size place i = refl
fault_as other size place i = refl

fault_kept : (size place : ℕ) (i : Insn) → fault_of size place (cleared i) ≡ fault_of size place i
unfolding fault_of
fault_kept size place i = ap (λ o. fault_in o size place (cleared i)) (operation_kept i) ∙ fault_as (bpf.operation_of i.code) size place i

return_kept : (i : Insn) → is_return (cleared i) ≡ is_return i
unfolding is_return
return_kept i = ap is_return_code (operation_kept i)

-- an instruction of the cleared program is one of the program, cleared
from_map : (o : Option Insn) (j : Insn) → option_map cleared o ≡ Some j → (i : Insn) × (o ≡ Some i) × (cleared i ≡ j)
from_map (Some i) j is = (i, refl, cc)
from_map None j is = absurd cc

pub cleared_valid : (program : List Insn) → IsValidProgram program → IsValidProgram (map cleared program)
cleared_valid program valid =
    let many : length (map cleared program) ≡ length program = length-map program cleared in
    record {
      some = subst (λ n. 0 < n) (sym many) valid.some;
      most = rw many valid.most;
      sound = λ k j within at.
          let found = from_map (slice_get program k) j (sym (slice_get-map cleared program k) ∙ at) in
          subst (λ n. fault_of n k j ≡ None) (sym many) (subst (λ x. fault_of (length program) k x ≡ None) found.2 (fault_kept (length program) k found.0 ∙ valid.sound k found.0 (subst (λ n. k < n) many within) found.1));
      returns =
          let last = valid.returns in (
            cleared last.0,
            subst (λ n. slice_get (map cleared program) (n - 1) ≡ Some (cleared last.0)) (sym many) (slice_get-map cleared program (length program - 1) ∙ ap (option_map cleared) last.1),
            return_kept last.0 ∙ last.2,
          );
    }

-- ---- What it does

effect_as : (o : Option bpf.Operation) (packet : List ℕ) (wire : ℕ) (i : Insn) (r : Registers) → effect_if o packet wire (cleared_as o i) r ≡ effect_if o packet wire i r
effect_as (Some (bpf.Branch test bpf.Constant)) packet wire i r = refl
effect_as (Some (bpf.Branch test bpf.InIndex)) packet wire i r = refl
effect_as (Some (bpf.Calculate how bpf.Constant)) packet wire i r = refl
effect_as (Some (bpf.Calculate how bpf.InIndex)) packet wire i r = refl
effect_as (Some (bpf.Transfer bpf.Index)) packet wire i r = refl
effect_as (Some (bpf.Transfer bpf.Accumulator)) packet wire i r = refl
effect_as other packet wire i r = refl

effect_kept : (packet : List ℕ) (wire : ℕ) (i : Insn) (r : Registers) → effect packet wire (cleared i) r ≡ effect packet wire i r
unfolding effect
effect_kept packet wire i r = ap (λ o. effect_if o packet wire (cleared i) r) (operation_kept i) ∙ effect_as (bpf.operation_of i.code) packet wire i r

-- the answer that the run reaches after an effect
abbrev goes_on : List Insn → List ℕ → ℕ → Effect → ℕ
goes_on others packet wire (Goes passed r) = answer others packet wire passed r
goes_on others packet wire (Ends n) = n

by_effect : (these others : List Insn) (packet : List ℕ) (wire : ℕ) (e : Effect) → ((passed : ℕ) (r : Registers) → answer these packet wire passed r ≡ answer others packet wire passed r) → goes_on these packet wire e ≡ goes_on others packet wire e
by_effect these others packet wire (Goes passed r) same = same passed r
by_effect these others packet wire (Ends n) same = refl

answer_kept : (program : List Insn) (packet : List ℕ) (wire passed : ℕ) (r : Registers) → answer (map cleared program) packet wire passed r ≡ answer program packet wire passed r
unfolding answer
answer_kept [] packet wire passed r = refl
answer_kept (i ∷ others) packet wire (suc passed) r = answer_kept others packet wire passed r
answer_kept (i ∷ others) packet wire zero r =
    ap (goes_on (map cleared others) packet wire) (effect_kept packet wire i r)
    ∙ by_effect (map cleared others) others packet wire (effect packet wire i r) (λ passed r'. answer_kept others packet wire passed r')

pub verdict_kept : (program : List Insn) (packet : List ℕ) (wire : ℕ) → verdict (map cleared program) packet wire ≡ verdict program packet wire
unfolding verdict
verdict_kept program packet wire = answer_kept program packet wire 0 initial
