-- Instructions that are appended one by one.
use Rattle.std.proofs.Common.{◌≡◌, ℕ, suc, ◌+◌, ◌<◌, List, ◌++◌, length, get_or, drop, append_assoc, arith, sym, subst, ap, ◌∙◌}
use Rattle.std.proofs.lemmas.List.{drop_more}
use Rattle.bpfvm.specs.declared.insn.Insn.{Insn}
use Rattle.line_text.specs.Texts.{numbered}
use Rattle.cli_cut.specs.Objects.{element_json}

pub one-more : (old new total : List ℕ) (insns : List Insn) (place : ℕ) (d : Insn) → place < length insns
    → old ++ numbered element_json place (drop place insns) ≡ total → new ≡ old ++ element_json place (get_or insns place d)
    → new ++ numbered element_json (place + 1) (drop (place + 1) insns) ≡ total
one-more old new total insns place d within whole more =
    let next : suc place ≡ place + 1 = omega arith in
    let rest = numbered element_json (suc place) (drop (place + 1) insns) in
    let read = rw (drop_more insns place d within) at whole in
    subst (λ k. new ++ numbered element_json k (drop (place + 1) insns) ≡ total) next
    (ap (λ (t : List ℕ). t ++ rest) more ∙ append_assoc old (element_json place (get_or insns place d)) rest ∙ read)
