-- One line more of an array of C.
use Rattle.std.proofs.Common.{◌≡◌, ℕ, get_or, ◌+◌, ◌-◌, ◌^◌, ◌<◌, false, replicate, List, [], ◌∷◌, ◌++◌, length, take, sym, ap, ◌∙◌}
use Rattle.std.specs.List.{flat_map}
use Rattle.std.proofs.lemmas.Grind.{flat_map-append}
use Rattle.std.proofs.lemmas.List.{append-nil, take_more}
use Rattle.std.specs.Fmt.{padded_integral, format_spec, char_count}
use native.Mathlib.Numerals.{unary_clauses}
use Rattle.bpfvm.specs.declared.insn.Insn.{Insn}
use Rattle.bpf_asm.specs.Arrays.{element_text}

pub array_more : (text text' : List ℕ) (insns : List Insn) (n : ℕ) (d : Insn) → n < length insns → text ≡ flat_map element_text (take n insns)
    → text' ≡ text ++ element_text (get_or insns n d) → text' ≡ flat_map element_text (take (n + 1) insns)
array_more text text' insns n d inside before after =
    let line = element_text (get_or insns n d) in
    let lines = flat_map element_text (take n insns) in
    let more : flat_map element_text (take (n + 1) insns) ≡ lines ++ line =
    ap (flat_map element_text) (take_more insns n d inside) ∙ flat_map-append element_text (take n insns) (get_or insns n d ∷ []) ∙ ap (λ (t : List ℕ). lines ++ t) (append-nil line) in
    after ∙ ap (λ (t : List ℕ). t ++ line) before ∙ sym more

-- digits with zeros in front, as a width of eight has them
pub eight_padded : (ds : List ℕ) → padded_integral (format_spec 32 0 4 8 (2 ^ 64 - 1)) false [] ds ≡ replicate (8 - length ds) 48 ++ ds
unfolding padded_integral char_count
eight_padded ds = simp unary_clauses (ap (λ (t : List ℕ). replicate (8 - length ds) 48 ++ t) (append-nil ds))
