-- Runs of programs from their first instruction on.
use Rattle.std.proofs.Common.{◌≡◌, ℕ, true, List, ◌∷◌, refl, ap, ◌∙◌, arith, ◌==◌}
use Rattle.std.proofs.lemmas.Bool.Decides.{nat_tests}
use Rattle.bpfvm.specs.declared.insn.Insn.{Insn}
use Rattle.bpfvm.specs.Machine.{Registers, Effect, Goes, Ends, effect, answer}

-- a run goes on after its first instruction, or ends
abbrev pub after : List Insn → List ℕ → ℕ → Effect → ℕ
after rest packet wire (Goes passed r) = answer rest packet wire passed r
after rest packet wire (Ends n) = n

pub answer-first : (i : Insn) (rest : List Insn) (packet : List ℕ) (wire : ℕ) (r : Registers) (e : Effect) → effect packet wire i r ≡ e → answer (i ∷ rest) packet wire 0 r ≡ after rest packet wire e
unfolding answer
answer-first i rest packet wire r e is = by_effect (effect packet wire i r) ∙ ap (after rest packet wire) is
  where
    by_effect : (e : Effect) → elim e [ Goes passed r' ↦ answer rest packet wire passed r' | Ends n ↦ n ] ≡ after rest packet wire e
    by_effect (Goes passed r') = refl
    by_effect (Ends n) = refl

abbrev pub insn_of : ℕ → ℕ → ℕ → ℕ → Insn
insn_of code jt jf k = record { code = code; jt = jt; jf = jf; k = k }

pub equal-true : (m n : ℕ) → (m == n) ≡ true → m ≡ n
equal-true m n is = grind (arith, nat_tests)
