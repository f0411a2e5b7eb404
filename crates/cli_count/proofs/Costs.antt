-- The instructions that a program takes for packets, counted one packet after the other.
use Rattle.std.proofs.Common.{◌≡◌, ℕ, ◌+◌, ◌-◌, ◌^◌, ◌≤◌, ◌∙◌, List, [], ◌∷◌, ◌++◌, ◌⊎◌, inl, inr, ap, sym, arith}
use Rattle.std.specs.Prelude.{min}
use Rattle.std.specs.List.{sum_by}
use Rattle.std.proofs.lemmas.Bool.{cases_lt}
use Rattle.std.proofs.lemmas.List.{map-append}
use Rattle.std.proofs.lemmas.List.Sums.{sum_by-append, sum_by-cons}
use Rattle.std.proofs.Math.Nat.{le_of_lt, min-eq_left, min-eq_right}
use Rattle.savefile.specs.declared.packet.Packet.{Packet}
use Rattle.bpfvm.specs.declared.insn.Insn.{Insn}
use Rattle.bpfvm.specs.Traces.{TakesInstructions}
use Rattle.cli_count.specs.Counting.{Charge, IsCharged, TakesInAll}
use Rattle.cli_count.proofs.Counting.{all-more}

-- a sum that is cut off at a bound, and more
cut-again : (s m most : ℕ) → (s ≤ most) ⊎ (most ≤ s) → min (min s most + m) most ≡ min (s + (m + 0)) most
cut-again s m most (inl below) =
    let same : s + m ≡ s + (m + 0) = omega arith in
    ap (λ k. min (k + m) most) (min-eq_left below) ∙ ap (λ k. min k most) same
cut-again s m most (inr above) =
    let one : most ≤ most + m = omega arith in
    let other : most ≤ s + (m + 0) = omega (arith, above) in
    ap (λ k. min (k + m) most) (min-eq_right above) ∙ min-eq_right one ∙ sym (min-eq_right other)

below-or-above : (s most : ℕ) → (s ≤ most) ⊎ (most ≤ s)
below-or-above s most = elim (cases_lt s most) [ inl below ↦ inl (le_of_lt below) | inr above ↦ inr above ]

pub takes-more : (program : List Insn) (packets : List Packet) (p : Packet) (n m after : ℕ) → TakesInAll program packets n → TakesInstructions program p.bytes p.len m →
    after ≡ min (n + m) (2 ^ 64 - 1) → TakesInAll program (packets ++ p ∷ []) after
takes-more program packets p n m after t one is =
    let c : Charge = record { packet = p; instructions = m } in
    let total = sum_by (λ (d : Charge). d.instructions) t.charges in
    let added = sum_by-append (λ (d : Charge). d.instructions) t.charges (c ∷ []) ∙ ap (λ k. total + k) (sum_by-cons (λ (d : Charge). d.instructions) c []) in
    record {
      charges = t.charges ++ c ∷ [];
      all = all-more (IsCharged program) t.charges c t.all one;
      packets_are = map-append (λ (d : Charge). d.packet) t.charges (c ∷ []) ∙ ap (λ (ps : List Packet). ps ++ p ∷ []) t.packets_are;
      counted = is ∙ ap (λ k. min (k + m) (2 ^ 64 - 1)) t.counted ∙ cut-again total m (2 ^ 64 - 1) (below-or-above total (2 ^ 64 - 1)) ∙ ap (λ k. min k (2 ^ 64 - 1)) (sym added);
    }
